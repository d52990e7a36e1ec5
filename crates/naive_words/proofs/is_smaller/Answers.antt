-- `is_smaller` compares the samples' places.
use mathlib.Core.Path.{◌≡◌, refl, ◌∙◌, ap}
use Rattle.std.proofs.Common.{rules}
use Rattle.std.proofs.lemmas.Iterator.{YieldsList-from_slice, YieldsList-from_map}
use Rattle.std.proofs.lemmas.Iterator.Consumers.{YieldsList-at}
use Rattle.std.proofs.lemmas.Iterator.Search.{cmp_from_yields_List}
use Rattle.std.specs.Ordering.{nat_cmp, is_lt}
use Rattle.naive_words.proofs.Trying.{place, smaller}
use Rattle.naive_words.proofs.is_smaller.Goals as goal

pub returns : goal.returns
returns c =
    c.is_lt.ensures
    ∙ ap is_lt (cmp_from_yields_List (λ x y. y ≡ x) _ nat_cmp c.cmp.result c.cmp.ensures.ran
    (YieldsList-from_map _ place (YieldsList-at c.map.ensures.source (YieldsList-from_slice c.args.x.now cc)) c.map.ensures.closure (λ x r q k. search rules))
    (λ it e. YieldsList-at e (YieldsList-from_map _ place (YieldsList-at c.map-2.ensures.source (YieldsList-from_slice c.args.y.now cc)) c.map-2.ensures.closure (λ x r q k. search rules)))
    (λ x y. refl))
    ∙ smaller c.args.x.now c.args.y.now
