-- `words_fit` reads the rules in order. The invariant: the words passed are good.
use Rattle.std.proofs.Common.{◌+◌, ◌*◌, get_or, arith}
use Rattle.definitions.specs.Services.{outcome_of, refusal_number, refusal_place}
use Rattle.bad_words.proofs.Words.{bad_most, good_none, bad_refused, good_passed, all_good}
use Rattle.bad_words.proofs.words_fit.Goals as goal

pub loop-r-init : goal.loop-r-init
loop-r-init c = good_none c.args.table.now

pub returns-in-Some : goal.returns-in-Some
unfolding outcome_of refusal_number refusal_place
returns-in-Some c = bad_refused c.loop-r.invariant c.bad_of.result c.bad_of.ensures c.in-Some.word (omega arith) c.requires.0 c.in-Some.is

pub overflow_add-result : goal.overflow_add-result
overflow_add-result c =
    let t = c.args.table.now in
    omega (arith, bad_most c.loop-r.r (get_or t (2 * c.loop-r.r) 0) (get_or t (2 * c.loop-r.r + 1) 0) c.bad_of.result c.in-Some.word c.bad_of.ensures c.in-Some.is)

pub loop-r-preserved : goal.loop-r-preserved
loop-r-preserved c = good_passed c.loop-r.invariant c.bad_of.result c.bad_of.ensures c.in_default.is

pub returns : goal.returns
unfolding outcome_of
returns c = all_good c.loop-r.invariant (omega arith) c.requires.0
