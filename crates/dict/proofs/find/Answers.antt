-- `find` walks the bucket of the two words from its newest rule down. The invariant is the walk's (Walk.antt), whatever number of rules the links are those of.
use mathlib.Core.Path.{refl, sym, ◌∙◌, ap}
use lib.ListN.{get_or}
use Prim.Native.Nat.{ℕ}
use native.Mathlib.Omega.{arith}
use Rattle.dict.specs.Dictionary.{Dict}
use Rattle.dict.specs.Links.{bucket_small}
use Rattle.dict.proofs.Walk.{Walk, walk_start, walk_next, walk_found, walk_ended}
use Rattle.dict.proofs.find.Goals as goal

pub loop-next-init : goal.loop-next-init
loop-next-init c =
    let a = c.args in
    let first = get_or a.links.now c.bucket.result 0 in
    let walk : (n : ℕ) → Dict a.rules.now a.links.now n → Walk a.rules.now n a.x a.y first
    = λ n d. walk_start a.rules.now a.links.now n a.x a.y first d (bucket_small a.x a.y) (ap (λ (k : ℕ). get_or a.links.now k 0) c.bucket.ensures.value) in
    let most = (walk c.requires.0 c.requires.1).most in
    (omega (arith, c.requires.2), omega (arith, c.requires.3), walk)

pub returns-then-has_words : goal.returns-then-has_words
returns-then-has_words c n d =
    let a = c.args in
    walk_found a.rules.now n a.x a.y c.loop-next.next (c.loop-next.invariant.2 n d) (omega arith) (sym c.has_words.ensures ∙ c.if-has_words.true)

pub loop-next-smaller : goal.loop-next-smaller
loop-next-smaller c =
    let a = c.args in
    let n = c.requires.0 in
    (walk_next a.rules.now a.links.now n a.x a.y c.loop-next.next _ c.requires.1 (c.loop-next.invariant.2 n c.requires.1) (omega arith)
    (sym c.has_words.ensures ∙ c.if-has_words.false) refl).1

pub loop-next-preserved : goal.loop-next-preserved
loop-next-preserved c =
    let a = c.args in
    let less = loop-next-smaller c in (
      omega arith,
      omega arith,
      λ n d. (walk_next a.rules.now a.links.now n a.x a.y c.loop-next.next _ d (c.loop-next.invariant.2 n d) (omega arith)
          (sym c.has_words.ensures ∙ c.if-has_words.false) refl).0,
    )

pub returns : goal.returns
returns c n d =
    let a = c.args in
    walk_ended a.rules.now n a.x a.y c.loop-next.next (c.loop-next.invariant.2 n d) (omega arith)
