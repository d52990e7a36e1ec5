-- `text_length` reads the length of the root's string, which is the marked text.
use native.Mathlib.Omega.{arith}
use Rattle.state.proofs.Lengths.{rules_range, root_length}
use Rattle.state.proofs.text_length.Goals as goal

pub overflow_sub-rules : goal.overflow_sub-rules
overflow_sub-rules c = omega (arith, rules_range c.requires.1)

pub overflow_add-rules : goal.overflow_add-rules
overflow_add-rules c = omega (arith, rules_range c.requires.1)

pub offset_bounds-work-rules : goal.offset_bounds-work-rules
offset_bounds-work-rules c = omega (arith, rules_range c.requires.1)

pub bounds-work-rules : goal.bounds-work-rules
bounds-work-rules c = omega (arith, rules_range c.requires.1, c.requires.1.loaded.kept.long)

pub overflow_sub-result : goal.overflow_sub-result
overflow_sub-result c = omega (arith, c.wide.ensures, root_length c.requires.1)

pub returns : goal.returns
returns c o h = omega (arith, c.wide.ensures, root_length h)
