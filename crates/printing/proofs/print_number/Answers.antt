-- `print_number` writes the bytes, and then the digits from the front of an array.
use Rattle.std.proofs.Common.{◌≡◌, sym, ◌∙◌, ap, subst, List, ℕ, ◌+◌, ◌-◌, take, length-append, OnOk, [], ◌∷◌, arith}
use lib.Seq.{length-take-le}
use Rattle.std.specs.Io.KnownBytes.{Appends}
use Rattle.definitions.specs.Programs.{decimal, line, named}
use Rattle.printing.proofs.Numbers.{digits_taken, appended_both}
use Rattle.printing.proofs.print_number.Goals as goal

pub slice_bounds-digits-end : goal.slice_bounds-digits-end
slice_bounds-digits-end g c = sym (length-take-le c.put_number-count.result c.put_number-count.new.out c.put_number-count.ensures.fits.1)

pub returns : goal.returns
unfolding named line
returns g c =
    let put = c.put_number-count in
    let (_, front) = digits_taken (decimal c.args.n) _ put.new.out 10 (put.result + 1) (omega (arith, put.ensures.value, length-append (decimal c.args.n) (10 ∷ []))) put.ensures.out_after in
    let size : put.result + 1 - 1 ≡ put.result = omega arith in
    let taken = sym (ap (λ (k : ℕ). take k put.new.out) size) ∙ front in
    appended_both c.write_all-2.result _ _ _ c.args.name.now (decimal c.args.n) c.in_ok-write_all.ensures.bytes
    (subst (λ (l : List ℕ). OnOk c.write_all-2.result (Appends (g.W.Write.contents c.write_all.new.self) (g.W.Write.contents c.write_all-2.new.self) l)) taken c.write_all-2.ensures.bytes)
