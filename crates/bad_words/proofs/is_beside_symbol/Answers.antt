-- `is_beside_symbol` tests the kind first, and then the number.
use Rattle.std.proofs.Common.{◌≡◌, ◌∙◌, ℕ, ◌/◌, ◌%◌, cond, sym, ap, eqb, leb, eq-eqb, ne_eqb}
use Rattle.definitions.specs.Table.{kind_of, number_of}
use Rattle.layout.specs.Layout.{KIND}
use Rattle.bad_words.proofs.is_beside_symbol.Goals.{then-r-eq0, else-r-eq0}
use Rattle.bad_words.proofs.is_beside_symbol.Goals as goal

pub returns-then-y-eq3 : goal.returns-then-y-eq3
unfolding kind_of number_of
returns-then-y-eq3 c =
    let a = c.args in
    let most : ◌≡◌ {A = ℕ} c.if-r-eq0.most (cond (eqb a.r 0) 65535 0) = elim c.if-r-eq0.branch [
      | then-r-eq0 w ↦ w.most-is ∙ sym (ap (λ b. cond b 65535 0) (eq-eqb a.r 0 w.if-r-eq0.true))
      | else-r-eq0 w ↦ w.most-is ∙ sym (ap (λ b. cond b 65535 0) (ne_eqb a.r 0 w.if-r-eq0.false))
    ] in
    rw (eq-eqb (a.y / KIND) 3 c.if-y-eq3.true) (ap (leb (a.y % KIND)) most)

pub returns-else-y-eq3 : goal.returns-else-y-eq3
unfolding kind_of number_of
returns-else-y-eq3 c = rw (ne_eqb (c.args.y / KIND) 3 c.if-y-eq3.false)
