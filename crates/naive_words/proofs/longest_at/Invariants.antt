-- `longest_at` tries lengths downwards. The invariant: no length above the one reached gives a Lyndon word, so those up to it decide.
use mathlib.Core.Path.{◌≡◌}
use mathlib.Core.List.{map}
use Rattle.definitions.specs.Words.{lyndon_length}
use Rattle.definitions.specs.Table.{rank_of}
use Rattle.definitions.specs.Services.{sample_order}
use Rattle.naive_words.proofs.Trying.{longest_to}
use Rattle.naive_words.proofs.longest_at.Given as goal

abbrev pub invariant-loop-k : goal.invariant-loop-k
invariant-loop-k l = lyndon_length (map (rank_of sample_order) l.text) l.i ≡ longest_to (rank_of sample_order) l.text l.i l.k
