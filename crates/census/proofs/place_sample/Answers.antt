-- `place_sample` lists where a sample stands in a local array, and writes it there.
use mathlib.Core.Path.{◌≡◌, refl, sym, ◌∙◌, ap, subst}
use mathlib.Core.List.{List, [], ◌∷◌}
use Prim.Native.Nat.{ℕ, ◌-◌}
use native.Mathlib.Omega.{arith}
use lib.ListN.{length, take, replicate}
use Rattle.std.specs.declared.result.Result.TheVariants.{Ok}
use Rattle.definitions.specs.Words.{placed}
use Rattle.definitions.specs.Table.{text_of}
use Rattle.definitions.specs.Occurrences.{occurrences}
use Rattle.definitions.specs.Services.{sample_order, cleared, table_checks}
use Rattle.lists.specs.Decisions.{Passed}
use Rattle.run_counts.proofs.Listed.{listed_front, listed_fits}
use Rattle.census.specs.Samples.{Tried, tried_refused, tried_done, done_tried, Places, put_all, occurs_below}
use Rattle.census.specs.Accepted.{accepted}
use Rattle.census.proofs.Locating.{located}
use Rattle.census.proofs.place_sample.Goals.{After-locate-found}
use Rattle.census.proofs.place_sample.Goals as goal

abbrev zeros : List ℕ
zeros = replicate 2047 0

-- where the sample stands
abbrev places : After-locate-found → List ℕ
places c = let a = c.args in occurrences (a.sample ∷ []) (text_of sample_order a.table.now)

-- what the search tells
told : (c : After-locate-found) → let a = c.args in
    Tried sample_order a.table.now a.work.now c.locate-found.new.work (length (places c)) (c.locate-found.new.res ≡ placed (places c) zeros) c.locate-found.result.answer
told c =
    let a = c.args in
    located sample_order a.table.now a.work.now zeros a.sample refl c.locate-found.result c.locate-found.new.work c.locate-found.new.res c.locate-found.ensures

pub returns-in_default : goal.returns-in_default
returns-in_default c = tried_refused (told (goal.at.returns-in_default c).After-locate-found) c.in_default.is

-- done: the table is accepted, and the places stand at the front of the array
found : (c : After-locate-found) {n : ℕ} → c.locate-found.result.answer ≡ Ok n
    → let a = c.args in
    Passed (table_checks sample_order a.table.now (length a.work.now)) × (n ≡ length (places c)) × (c.locate-found.new.work ≡ cleared a.work.now) × (c.locate-found.new.res ≡ placed (places c) zeros)
found c e = tried_done (told c) e

pub slice_bounds-put_at-end : goal.slice_bounds-put_at-end
slice_bounds-put_at-end c =
    let l = (goal.at.slice_bounds-put_at-end c).After-locate-found in
    listed_fits (places l) zeros c.locate-found.new.res c.in-Ok.n (found l c.in-Ok.is).1 (found l c.in-Ok.is).3

front : (c : After-locate-found) {n : ℕ} → c.locate-found.result.answer ≡ Ok n → take (n - 0) c.locate-found.new.res ≡ places c
front c {n} e = listed_front (places c) zeros c.locate-found.new.res n (found c e).1 (found c e).3

pub put_at-requires : goal.put_at-requires
put_at-requires c =
    let text = text_of sample_order c.args.table.now in
    let l = (goal.at.put_at-requires c).After-locate-found in
    subst (λ (p : List ℕ). Places p c.args.drive.now) (sym (front l c.in-Ok.is))
    (λ i m. omega (arith, c.requires, (occurs_below c.args.sample text i m).0, (accepted sample_order c.args.table.now (length c.args.work.now) (found l c.in-Ok.is).0).0))

pub returns : goal.returns
returns c =
    let a = c.args in
    let l = (goal.at.returns c).After-locate-found in
    let f = found l c.in-Ok.is in
    done_tried f.0 f.1 f.2 (c.put_at.ensures ∙ ap (λ (x : List ℕ). put_all x a.sample a.drive.now) (front l c.in-Ok.is)) refl
