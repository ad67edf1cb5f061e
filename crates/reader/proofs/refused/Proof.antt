-- `reader::refused` meets its contract.
-- Assumes nothing.
use mathlib.Core.Path.{refl, sym, ap, ◌∙◌}
use Prim.Native.Nat.{ℕ}
use borrow.Author.Rules.{rules}
use Rattle.grammar.specs.Numbers.{EXPRESSION, DEPTH, LARGE, met_with}
use Rattle.reader.specs.Reader.{refusal, numbers}
use Rattle.reader.proofs.ReaderLaws.{no_detail, depth_else}
use Rattle.reader.proofs.refused.Statement.{statement}
use Rattle.reader.proofs.refused.Tie as tie

cast_start : tie.Need-overflow_cast-start
cast_start c = search rules

cast_end : tie.Need-overflow_cast-end
cast_end c = search rules

returns : tie.Need-returns-in-5
unfolding numbers met_with
returns c =
    let r' = c.args.r in
    sym (ap (λ (n : ℕ). refusal n r'.place.start r'.place.end r'.detail) c.in-5.is)

returns_2 : tie.Need-returns-in-6
unfolding numbers met_with
returns_2 c =
    let r' = c.args.r in
    sym (ap (λ (n : ℕ). refusal n r'.place.start r'.place.end r'.detail) c.in-6.is)

returns_3 : tie.Need-returns-in-7
unfolding numbers met_with
returns_3 c =
    let r' = c.args.r in
    let z = no_detail r'.detail c.requires EXPRESSION refl c.in-7.is in
    sym (ap (λ (n : ℕ). refusal n r'.place.start r'.place.end r'.detail) c.in-7.is ∙ ap (λ (x : ℕ). refusal EXPRESSION r'.place.start r'.place.end x) z)

returns_4 : tie.Need-returns-in-8
unfolding numbers met_with
returns_4 c =
    let r' = c.args.r in
    sym (ap (λ (n : ℕ). refusal n r'.place.start r'.place.end r'.detail) c.in-8.is)

returns_5 : tie.Need-returns-in-9
unfolding numbers met_with
returns_5 c =
    let r' = c.args.r in
    sym (ap (λ (n : ℕ). refusal n r'.place.start r'.place.end r'.detail) c.in-9.is)

returns_6 : tie.Need-returns-in-17
unfolding numbers met_with
returns_6 c =
    let r' = c.args.r in
    let z = no_detail r'.detail c.requires LARGE refl c.in-17.is in
    sym (ap (λ (n : ℕ). refusal n r'.place.start r'.place.end r'.detail) c.in-17.is ∙ ap (λ (x : ℕ). refusal LARGE r'.place.start r'.place.end x) z)

returns_7 : tie.Need-returns-in_default
unfolding numbers met_with
returns_7 c =
    let r' = c.args.r in
    let none = c.in_default.in_default-own.rest in
    let z = depth_else r'.detail c.requires none.0.0.0.0.0.1 none.0.0.0.0.1 none.0.0.0.1 none.0.0.1 none.0.1 none.1 in
    sym (ap (λ (n : ℕ). refusal n r'.place.start r'.place.end r'.detail) z ∙ ap (λ (x : ℕ). refusal DEPTH r'.place.start r'.place.end x) (no_detail r'.detail c.requires DEPTH refl z))

pub refused_spec : {M : Type 1} → statement M
refused_spec =
    tie.close (tie.spec cast_start cast_end returns returns_2 returns_3 returns_4 returns_5 returns_6 returns_7)
