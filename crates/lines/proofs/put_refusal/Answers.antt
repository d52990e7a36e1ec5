-- `put_refusal` writes the number of a refusal, and nothing where there is none.
use mathlib.Core.Path.{◌≡◌, sym, ◌∙◌, ap}
use mathlib.Core.List.{List}
use Prim.Native.Nat.{ℕ}
use lib.ListN.{length}
use Rattle.definitions.specs.Words.{placed}
use Rattle.definitions.specs.Programs.{named, refused_name}
use Rattle.lists.specs.Lists.{placed_none}
use Rattle.lines.specs.Lines.{refusal}
use Rattle.lines.proofs.put_refusal.Goals as goal

pub returns-in_default : goal.returns-in_default
unfolding refusal
returns-in_default c =
    let a = c.args in
    let none = ap refusal c.in_default.is in
    record {
      value = sym (ap length none);
      out_after = sym (ap (λ (l : List ℕ). placed l a.out.now) none ∙ placed_none a.out.now);
    }

pub returns : goal.returns
unfolding refusal
returns c =
    let line : refusal c.args.answer ≡ named refused_name c.wide.result = ap refusal c.in-Err.is ∙ ap (λ (n : ℕ). named refused_name n) (sym (c.wide.ensures ∙ c.number_of.ensures)) in
    record {
      value = c.put_named.ensures.value ∙ ap length (sym line);
      out_after = c.put_named.ensures.out_after ∙ ap (λ (l : List ℕ). placed l c.args.out.now) (sym line);
    }
