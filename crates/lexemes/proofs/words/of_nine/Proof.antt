-- `lexemes::words::of_nine` meets its contract: what the first eight bytes and the rest make together.
-- Assumes nothing.
use mathlib.Core.Path.{◌≡◌, refl, subst}
use mathlib.Core.List.{List, [], ◌∷◌}
use Prim.Native.Nat.{ℕ, ◌+◌, ◌*◌, ◌<◌}
use native.Mathlib.Omega.{arith}
use borrow.Author.Rules.{rules}
use Rattle.lexemes.specs.Words.{Makes, KeywordAt}
use Rattle.lexemes.proofs.Keywords.{has, numbered, shift, join, below, is_keyword, no_keyword}
use Rattle.lexemes.proofs.words.of_nine.Statement.{statement}
use Rattle.lexemes.proofs.words.of_nine.Tie as tie

eight_requires : tie.Need-eight-v-requires
eight_requires c κs = search rules

add_one : tie.Need-overflow_add-at
add_one c = search rules

one_requires : tie.Need-one-last-requires
one_requires c κs = search rules

module _ (s : List ℕ) (at v x : ℕ) (f : Makes s at 8 v) (g : Makes s (at + 8) 1 x) where
  whole : Makes s at 9 (v + x * 18446744073709551616)
  unfolding shift
  whole = subst (λ (r : ℕ). Makes s at 9 r) (omega arith) (join s 8 1 9 at v x refl f g)

  is_importstr : v ≡ 8391178565566098793 → x ≡ 114 → KeywordAt s at (at + 9) 68
  unfolding has
  is_importstr a b = is_keyword s at 2 9 2111320002968454983017 68 tt (v + x * 18446744073709551616) whole (omega (arith, a, b))

  is_importbin : v ≡ 7593759956544810345 → x ≡ 110 → KeywordAt s at (at + 9) 69
  unfolding has
  is_importbin a b = is_keyword s at 3 9 2036735608064595488105 69 tt (v + x * 18446744073709551616) whole (omega (arith, a, b))

  is_none : (v ≡ 8391178565566098793 → x ≡ 114 → ⊥) → (v ≡ 7593759956544810345 → x ≡ 110 → ⊥) → KeywordAt s at (at + 9) 55
  unfolding numbered shift
  is_none n0 n1 =
      let low : v < 18446744073709551616 = below s 8 at v f in
      no_keyword s at 9 (2111320002968454983017 ∷ 2036735608064595488105 ∷ []) tt (v + x * 18446744073709551616) whole ((tt, λ e. n1 (omega (arith, e, low)) (omega (arith, e, low))), λ e. n0 (omega (arith, e, low)) (omega (arith, e, low)))

returns : tie.Need-returns-then-last-eq114
returns c =
    let args = c.args in
    let eight = c.eight-v in
    let rest = c.one-last in
    is_importstr args.src.now args.at eight.result rest.result eight.ensures rest.ensures c.if-v-eq8391178565566098793.true c.if-last-eq114.true

returns_2 : tie.Need-returns-then-v-eq8391178565566098793
returns_2 c =
    let args = c.args in
    let eight = c.eight-v in
    let rest = c.one-last in
    is_none args.src.now args.at eight.result rest.result eight.ensures rest.ensures (λ a b. c.if-last-eq114.false b) (λ a b. absurd (omega (arith, a, c.if-v-eq8391178565566098793.true)))

returns_3 : tie.Need-returns-then-last-eq110
returns_3 c =
    let args = c.args in
    let eight = c.eight-v in
    let rest = c.one-last in
    is_importbin args.src.now args.at eight.result rest.result eight.ensures rest.ensures c.if-v-eq7593759956544810345.true c.if-last-eq110.true

returns_4 : tie.Need-returns-then-v-eq7593759956544810345
returns_4 c =
    let args = c.args in
    let eight = c.eight-v in
    let rest = c.one-last in
    is_none args.src.now args.at eight.result rest.result eight.ensures rest.ensures (λ a b. c.if-v-eq8391178565566098793.false a) (λ a b. c.if-last-eq110.false b)

returns_5 : tie.Need-returns
returns_5 c =
    let args = c.args in
    let eight = c.eight-v in
    let rest = c.one-last in
    is_none args.src.now args.at eight.result rest.result eight.ensures rest.ensures (λ a b. c.if-v-eq8391178565566098793.false a) (λ a b. c.if-v-eq7593759956544810345.false a)

pub of_nine_spec : {M : Type 1} → statement M
of_nine_spec = tie.close (tie.spec eight_requires add_one one_requires returns returns_2 returns_3 returns_4 returns_5)
