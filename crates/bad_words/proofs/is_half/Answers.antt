-- `is_half`: what wraps is 2 ^ 32 less `least` or more, and r is no more than that.
use Rattle.std.proofs.Common.{◌≡◌, ℕ, ◌+◌, ◌-◌, ◌%◌, ◌<◌, ◌≤◌, ◌&&◌, ltb, leb, arith, le-ltb, le-leb}
use borrow.Author.Tests.{lt-leb}
use Rattle.lists.specs.Numbers.{split_le}
use Rattle.bad_words.proofs.is_half.Goals as goal

wrapped : (x least r w : ℕ) → x < 4294967296 → w < 4294967296 → least + r ≤ 4294967296 → (w + least) % 4294967296 ≡ x → ltb w r ≡ leb least x && ltb (x - least) r
wrapped x least r w a b c e =
    split_le least x
    (λ h. let d : w ≡ x - least = omega arith in rw (le-leb least x h, d))
    (λ h. rw (lt-leb least x h) (le-ltb w r (omega arith)))

pub returns : goal.returns
returns c =
    let a = c.args in
    wrapped a.x a.least a.r c.wide.result (omega (arith, c.ranges)) (omega (arith, c.wide.ensures)) c.requires (omega (arith, c.wide.ensures, c.ranges))
