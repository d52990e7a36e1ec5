-- `read_input` reads until the slice is full: what a read gave stands behind what was read before it, and a read that gives nothing has met the end or failed.
use Rattle.std.proofs.Common.{◌≡◌, ℕ, ◌+◌, ◌-◌, ◌<◌, ◌≤◌, List, Result, Ok, Err, IfOk, arith, length, take, sym, ◌∙◌, subst}
use Rattle.std.specs.Io.KnownBytes.{Consumes, ReadConsumes}
use Rattle.std.specs.Result.{result_unwrap_or}
use Rattle.std.specs.declared.option.Option.{Option}
use Rattle.standard_input.specs.Reading.{HasRead, answer_at}
use Rattle.standard_input.proofs.Behind.{behind, within_part}
use Rattle.standard_input.proofs.read_input.Goals as goal

-- what is answered once a read gave nothing fits too
fits : {E : Type 0} (r x : Result ℕ E) (n size : ℕ) → x ≡ answer_at r n → n ≤ size → IfOk x (λ k. k ≤ size)
unfolding answer_at
fits (Ok k) x n size e h = rw e h
fits (Err k) x n size e h = rw e tt

-- and the reader is at its end, unless the read failed
stopped : {E : Type 0} (a b d : Option (List ℕ)) (r x : Result ℕ E) (n more : ℕ) (part input : List ℕ) → x ≡ answer_at r n → more ≡ result_unwrap_or r 0 → more ≡ 0
    → 0 < length part → ReadConsumes b d r part → Consumes a d (take (n + more) input) → IfOk x (HasRead a d input)
unfolding answer_at
stopped a b d (Ok k) x n more part input e f g room read h =
    let none : n + more ≡ n = omega arith in
    rw e (subst (λ (j : ℕ). Consumes a d (take j input)) none h, λ _. read.1 (sym f ∙ g) room)
stopped a b d (Err k) x n more part input e f g room read h = rw e tt

pub returns-then-more-eq0-clause-fits : goal.returns-then-more-eq0-clause-fits
returns-then-more-eq0-clause-fits g c = fits _ _ _ _ c.ended.ensures (omega arith)

pub returns-then-more-eq0-clause-bytes : goal.returns-then-more-eq0-clause-bytes
returns-then-more-eq0-clause-bytes g c =
    stopped _ _ _ _ _ _ c.unwrap_or-more.result c.read-got.new.buf _ c.ended.ensures c.unwrap_or-more.ensures c.if-more-eq0.true
    (omega (arith, c.read-got.auto.buf)) c.read-got.ensures.bytes
    (behind _ _ _ c.read-got.result (length c.loop-n.input - c.loop-n.n) c.loop-n.n c.unwrap_or-more.result c.loop-n.input c.read-got.new.buf
    c.loop-n.invariant.fits c.read-got.ensures.bound c.read-got.ensures.bytes c.unwrap_or-more.ensures c.loop-n.invariant.bytes)

pub loop-n-preserved : goal.loop-n-preserved
loop-n-preserved g c =
    let fits_part = within_part c.read-got.result c.unwrap_or-more.result c.read-got.new.buf c.read-got.ensures.bound c.unwrap_or-more.ensures in
    record {
      fits = omega (arith, c.read-got.auto.buf);
      bytes = behind _ _ _ c.read-got.result (length c.loop-n.input - c.loop-n.n) c.loop-n.n c.unwrap_or-more.result c.loop-n.input c.read-got.new.buf
          c.loop-n.invariant.fits c.read-got.ensures.bound c.read-got.ensures.bytes c.unwrap_or-more.ensures c.loop-n.invariant.bytes;
    }
