-- `words_fit` reads the rules in order. The invariant: the words passed are good.
use Rattle.bad_words.proofs.Words.{Good}
use Rattle.bad_words.proofs.words_fit.Given as goal

abbrev pub invariant-loop-r : goal.invariant-loop-r
invariant-loop-r l = Good l.table l.r
