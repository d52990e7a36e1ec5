-- `end_at` finishes place i: its closing is opened, the word at i is merged with what stands behind, and its length is stored.
use mathlib.Core.Path.{◌≡◌, subst}
use mathlib.Core.List.{List}
use Prim.Native.Nat.{ℕ, ◌+◌}
use lib.ListN.{drop, set, length-set}
use native.Mathlib.Omega.{arith}
use Rattle.lists.specs.Parts.{part, part_length}
use Rattle.lyndon.specs.Forest.{longest}
use Rattle.layout.specs.Layout.{CLOSINGS}
use Rattle.ends.specs.Areas.{Merged}
use Rattle.ends.proofs.Areas.{text_kept, opened, finished}
use Rattle.ends.proofs.end_at.Goals as goal

pub merge-j-requires : goal.merge-j-requires
merge-j-requires c =
    let a = c.args in
    let (e, z) = opened a.work.now a.n a.i (omega arith) (omega arith) (omega arith) c.requires.3 in
    (omega arith, simp length-set (omega arith), omega arith, e, z)

pub returns : goal.returns
returns c =
    let a = c.args in
    let size = part_length 0 a.n a.work.now (omega arith) in
    let text : part 0 a.n (set a.work.now (CLOSINGS + a.i) 0) ≡ part 0 a.n a.work.now = text_kept a.work.now a.n a.i 0 (omega arith) in
    finished (part 0 a.n a.work.now) c.merge-j.new.work a.i c.merge-j.result (omega arith) (omega (arith, c.merge-j.auto.work, length-set a.work.now (CLOSINGS + a.i) 0)) (omega arith)
    (subst (λ (s : List ℕ). c.merge-j.result ≡ a.i + longest (drop a.i s)) text c.merge-j.ensures.0)
    (subst (λ (s : List ℕ). Merged s a.i c.merge-j.new.work) text c.merge-j.ensures.2)
