-- `lexemes::words::of_ten` meets its contract: what the first eight bytes and the rest make together.
-- Assumes nothing.
use mathlib.Core.Path.{◌≡◌, refl, subst}
use mathlib.Core.List.{List, [], ◌∷◌}
use Prim.Native.Nat.{ℕ, ◌+◌, ◌*◌, ◌<◌}
use native.Mathlib.Omega.{arith}
use borrow.Author.Rules.{rules}
use Rattle.lexemes.specs.Words.{Makes, KeywordAt}
use Rattle.lexemes.proofs.Keywords.{has, numbered, shift, join, below, is_keyword, no_keyword}
use Rattle.lexemes.proofs.words.of_ten.Statement.{statement}
use Rattle.lexemes.proofs.words.of_ten.Tie as tie

eight_requires : tie.Need-eight-v-requires
eight_requires c κs = search rules

add_two : tie.Need-overflow_add-at
add_two c = search rules

two_requires : tie.Need-two-rest-requires
two_requires c κs = search rules

module _ (s : List ℕ) (at v x : ℕ) (f : Makes s at 8 v) (g : Makes s (at + 8) 2 x) where
  whole : Makes s at 10 (v + x * 18446744073709551616)
  unfolding shift
  whole = subst (λ (r : ℕ). Makes s at 10 r) (omega arith) (join s 8 2 10 at v x refl f g)

  is_tailstrict : v ≡ 7598263560416354676 → x ≡ 29795 → KeywordAt s at (at + 10) 66
  unfolding has
  is_tailstrict a b = is_keyword s at 0 10 549628337939736506753396 66 tt (v + x * 18446744073709551616) whole (omega (arith, a, b))

  is_none : (v ≡ 7598263560416354676 → x ≡ 29795 → ⊥) → KeywordAt s at (at + 10) 55
  unfolding numbered shift
  is_none n0 =
      let low : v < 18446744073709551616 = below s 8 at v f in
      no_keyword s at 10 (549628337939736506753396 ∷ []) tt (v + x * 18446744073709551616) whole (tt, λ e. n0 (omega (arith, e, low)) (omega (arith, e, low)))

returns : tie.Need-returns-then-rest-eq29795
returns c =
    let args = c.args in
    let eight = c.eight-v in
    let rest = c.two-rest in
    is_tailstrict args.src.now args.at eight.result rest.result eight.ensures rest.ensures c.if-v-eq7598263560416354676.true c.if-rest-eq29795.true

returns_2 : tie.Need-returns-then-v-eq7598263560416354676
returns_2 c =
    let args = c.args in
    let eight = c.eight-v in
    let rest = c.two-rest in
    is_none args.src.now args.at eight.result rest.result eight.ensures rest.ensures (λ a b. c.if-rest-eq29795.false b)

returns_3 : tie.Need-returns
returns_3 c =
    let args = c.args in
    let eight = c.eight-v in
    let rest = c.two-rest in
    is_none args.src.now args.at eight.result rest.result eight.ensures rest.ensures (λ a b. c.if-v-eq7598263560416354676.false a)

pub of_ten_spec : {M : Type 1} → statement M
of_ten_spec = tie.close (tie.spec eight_requires add_two two_requires returns returns_2 returns_3)
