-- 01, "What a contract must pin": five wrong readers, each shut out by one concrete source.
-- Assumes nothing.
use mathlib.Core.Path.{◌≡◌, refl, sym, ap, ◌∙◌}
use mathlib.Core.Bool.{cond}
use mathlib.Core.List.{List, [], ◌∷◌, ◌++◌}
use Prim.Native.Nat.{ℕ, ◌-◌}
use native.Mathlib.Omega.{arith}
use lib.Dec.{leb}
use lib.ListN.{length, replicate}
use Rattle.lexemes.specs.Rules.{rules}
use Rattle.lexemes.specs.Kept.{keep, first_bad}
use Rattle.lexemes.specs.Kept as lexemes
use Rattle.lexemes.proofs.Munch.{lex}
use Rattle.lexemes.specs.Texts.{plain}
use Rattle.grammar.specs.Trees.{◌⊕◌, count}
use Rattle.grammar.specs.Image.{payload, entry, image}
use Rattle.grammar.specs.Lexemes.{good, said}
use Rattle.grammar.specs.Productions.{rule, with_field, with_assert, with_member}
use Rattle.grammar.specs.Reading.{has, choose, view, production}
use Rattle.grammar.specs.Answer.{document_01, Answer, Verdict, verdict, Judged, answer, output}
use Rattle.grammar.specs.Source.{Bad, Kept, Reads01}
use Rattle.grammar.proofs.Execute.{run, after}
use Rattle.grammar.proofs.Source.{reads_once}
use Rattle.grammar.proofs.Computed.{plainly, low, words, word_at, no_string, no_strings}

-- A reader: of a setting, a source and the output as it is lent, the answer and the output as it is left.
abbrev pub Reader : Type 0
Reader = ℕ → List ℕ → List ℕ → Answer × List ℕ

-- The sources: nothing, `1`, and `1 2`.
abbrev one : List ℕ
one = 0x31 ∷ []

abbrev one_two : List ℕ
one_two = 0x31 ∷ 0x20 ∷ 0x32 ∷ []

abbrev Defined : ℕ → List ℕ → ℕ → Answer → List ℕ → Type 0
Defined s source room a out = Reads01 s source room a out

-- It meets the definition of the answer everywhere.
abbrev pub Meets : Reader → Type 0
Meets r = (s : ℕ) (source out : List ℕ) → Defined s source (length out) (r s source out).0 (r s source out).1

-- The answers that are defined.
defined : {source : List ℕ} (room : ℕ) {v : Verdict} → Judged Bad Kept document_01 0 source v → Defined 0 source room (answer room v) (output room v)
defined room {v} j = record { found = v; judged = j; answered = refl; written = refl }

on_none : (room : ℕ) → Defined 0 [] room (record { number = 7; start = 0; stop = 0; detail = 0; size = 0 }) (replicate room 0)
unfolding lex rules first_bad keep lexemes.bad lexemes.dropped no_strings no_string words word_at plain low run after production choose rule view has ◌⊕◌ count with_field with_assert with_member good said verdict answer output
on_none room = defined room (plainly 0 [] _ _ tt tt tt refl refl tt refl)

on_one : (room : ℕ) → Defined 0 one room (record { number = cond (leb 4 room) 0 12; start = 0; stop = 0; detail = 0; size = 4 })
    (cond (leb 4 room) ((0x04 ∷ 0x00 ∷ 0x01 ∷ 0x31 ∷ []) ++ replicate (room - 4) 0) (replicate room 0))
unfolding lex rules first_bad keep lexemes.bad lexemes.dropped no_strings no_string words word_at plain low run after production choose rule view has ◌⊕◌ count with_field with_assert with_member good said image entry payload verdict answer output
on_one room = defined room (plainly 0 one _ _ tt tt tt refl refl tt refl)

on_one_two : (room : ℕ) → Defined 0 one_two room (record { number = 5; start = 2; stop = 3; detail = 1; size = 0 }) (replicate room 0)
unfolding lex rules first_bad keep lexemes.bad lexemes.dropped no_strings no_string words word_at plain low run after production choose rule view has ◌⊕◌ count with_field with_assert with_member good said verdict answer output
on_one_two room = defined room (plainly 0 one_two _ _ tt tt tt refl refl tt refl)

same : {s : ℕ} {source : List ℕ} {room : ℕ} {a a' : Answer} {out out' : List ℕ} → Defined s source room a out → Defined s source room a' out' → (a ≡ a') × (out ≡ out')
same x y = reads_once x y

-- An output of four bytes.
abbrev four : List ℕ
four = 0 ∷ 0 ∷ 0 ∷ 0 ∷ []

-- One that refuses everything: by `1`.
pub refuses_all : (r : Reader) → ((s : ℕ) (source out : List ℕ) → (r s source out).0.number ≡ 0 → ⊥) → Meets r → ⊥
refuses_all r h m = h 0 one four (ap (λ (a : Answer). a.number) (same (m 0 one four) (on_one 4)).0)

-- One that hands back a constant: by `1` and the empty source.
pub constant : (r : Reader) (a : Answer) → ((s : ℕ) (source out : List ℕ) → (r s source out).0 ≡ a) → Meets r → ⊥
constant r a h m =
    let x : a.number ≡ 0 = ap (λ (b : Answer). b.number) (sym (h 0 one four) ∙ (same (m 0 one four) (on_one 4)).0) in
    let y : a.number ≡ 7 = ap (λ (b : Answer). b.number) (sym (h 0 [] four) ∙ (same (m 0 [] four) (on_none 4)).0) in
    omega arith

-- One that touches nothing: by `1`, which has to leave 04 first.
pub touches_nothing : (r : Reader) → ((s : ℕ) (source out : List ℕ) → (r s source out).1 ≡ out) → Meets r → ⊥
touches_nothing r h m =
    let e : four ≡ 0x04 ∷ 0x00 ∷ 0x01 ∷ 0x31 ∷ [] = sym (h 0 one four) ∙ (same (m 0 one four) (on_one 4)).1 in
    let z : ◌≡◌ {A = ℕ} 0 4 = cc in
    omega arith

-- One that reads the first phrase and fakes the rest: by `1 2`, which it takes for `1`.
pub first_phrase : (r : Reader) → ((out : List ℕ) → (r 0 one_two out).0 ≡ (r 0 one out).0) → Meets r → ⊥
first_phrase r h m =
    let x : (r 0 one_two four).0.number ≡ 5 = ap (λ (b : Answer). b.number) (same (m 0 one_two four) (on_one_two 4)).0 in
    let y : (r 0 one four).0.number ≡ 0 = ap (λ (b : Answer). b.number) (same (m 0 one four) (on_one 4)).0 in
    let z : (r 0 one_two four).0.number ≡ (r 0 one four).0.number = ap (λ (b : Answer). b.number) (h four) in
    omega arith

-- One that invents the needed length in 12: by `1` with an output of three bytes, where it has to be 4.
pub invents_length : (r : Reader) → ((r 0 one (0 ∷ 0 ∷ 0 ∷ [])).0.size ≡ 4 → ⊥) → Meets r → ⊥
invents_length r h m = h (ap (λ (a : Answer). a.size) (same (m 0 one (0 ∷ 0 ∷ 0 ∷ [])) (on_one 3)).0)
