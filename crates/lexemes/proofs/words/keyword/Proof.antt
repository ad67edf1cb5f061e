-- `lexemes::words::keyword` meets its contract: each length has its function.
-- Assumes nothing.
use mathlib.Core.Path.{◌≡◌, subst}
use Prim.Native.Nat.{ℕ, ◌+◌, ◌-◌, ◌<◌}
use native.Mathlib.Omega.{arith}
use borrow.Author.Rules.{rules}
use Rattle.lexemes.specs.Words.{KeywordAt}
use Rattle.lexemes.proofs.Keywords.{no_length}
use Rattle.lexemes.proofs.words.keyword.Statement.{statement}
use Rattle.lexemes.proofs.words.keyword.Tie as tie

up_again : {a e : ℕ} → a < e → a + (e - a) ≡ e
up_again h = omega arith

sub_n : tie.Need-overflow_sub-n
sub_n c = search rules

of_two_requires : tie.Need-of_two-requires
of_two_requires c κs = omega (arith, c.in-2.is)

returns : tie.Need-returns-in-2
returns c =
    let args = c.args in
    let told = c.of_two in
    subst (λ (e : ℕ). KeywordAt args.src.now args.at e told.result) (omega (arith, c.in-2.is)) told.ensures

of_three_requires : tie.Need-of_three-requires
of_three_requires c κs = omega (arith, c.in-3.is)

returns_2 : tie.Need-returns-in-3
returns_2 c =
    let args = c.args in
    let told = c.of_three in
    subst (λ (e : ℕ). KeywordAt args.src.now args.at e told.result) (omega (arith, c.in-3.is)) told.ensures

of_four_requires : tie.Need-of_four-requires
of_four_requires c κs = omega (arith, c.in-4.is)

returns_3 : tie.Need-returns-in-4
returns_3 c =
    let args = c.args in
    let told = c.of_four in
    subst (λ (e : ℕ). KeywordAt args.src.now args.at e told.result) (omega (arith, c.in-4.is)) told.ensures

of_five_requires : tie.Need-of_five-requires
of_five_requires c κs = omega (arith, c.in-5.is)

returns_4 : tie.Need-returns-in-5
returns_4 c =
    let args = c.args in
    let told = c.of_five in
    subst (λ (e : ℕ). KeywordAt args.src.now args.at e told.result) (omega (arith, c.in-5.is)) told.ensures

of_six_requires : tie.Need-of_six-requires
of_six_requires c κs = omega (arith, c.in-6.is)

returns_5 : tie.Need-returns-in-6
returns_5 c =
    let args = c.args in
    let told = c.of_six in
    subst (λ (e : ℕ). KeywordAt args.src.now args.at e told.result) (omega (arith, c.in-6.is)) told.ensures

of_eight_requires : tie.Need-of_eight-requires
of_eight_requires c κs = omega (arith, c.in-8.is)

returns_6 : tie.Need-returns-in-8
returns_6 c =
    let args = c.args in
    let told = c.of_eight in
    subst (λ (e : ℕ). KeywordAt args.src.now args.at e told.result) (omega (arith, c.in-8.is)) told.ensures

of_nine_requires : tie.Need-of_nine-requires
of_nine_requires c κs = omega (arith, c.in-9.is)

returns_7 : tie.Need-returns-in-9
returns_7 c =
    let args = c.args in
    let told = c.of_nine in
    subst (λ (e : ℕ). KeywordAt args.src.now args.at e told.result) (omega (arith, c.in-9.is)) told.ensures

of_ten_requires : tie.Need-of_ten-requires
of_ten_requires c κs = omega (arith, c.in-10.is)

returns_8 : tie.Need-returns-in-10
returns_8 c =
    let args = c.args in
    let told = c.of_ten in
    subst (λ (e : ℕ). KeywordAt args.src.now args.at e told.result) (omega (arith, c.in-10.is)) told.ensures

returns_9 : tie.Need-returns-in_default
returns_9 c =
    let args = c.args in
    subst (λ (e : ℕ). KeywordAt args.src.now args.at e 55) (up_again c.requires.0) (no_length args.src.now args.at (args.end - args.at) c.in_default.in_default-own.rest)

pub keyword_spec : {M : Type 1} → statement M
keyword_spec =
    tie.close
    (tie.spec
    sub_n
    of_two_requires
    of_three_requires
    of_four_requires
    of_five_requires
    of_six_requires
    of_eight_requires
    of_nine_requires
    of_ten_requires
    returns
    returns_2
    returns_3
    returns_4
    returns_5
    returns_6
    returns_7
    returns_8
    returns_9)
