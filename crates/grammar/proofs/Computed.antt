-- The answer to a source, computed from its bytes: its lexemes, what they say, and a run of the phrases. Where a source has strings, what they say is given.
-- Assumes nothing.
use mathlib.Core.Path.{◌≡◌, refl, sym}
use mathlib.Core.Bool.{Bool, true, false, not, ◌&&◌}
use mathlib.Core.List.{List, [], ◌∷◌}
use mathlib.Core.Option.{some}
use Prim.Native.Nat.{ℕ}
use native.Mathlib.Omega.{arith}
use lib.Dec.{T, eqb, leb, ltb, leb→le, ltb→lt}
use lib.ListN.{length}
use lib.Seq.{slice}
use borrow.Author.Tests.{eqb-true, eqb-false}
use Rattle.strings.specs.Utf8.{In, Utf8, row_00_7F}
use Rattle.strings.specs.Utf8 as unicode
use Rattle.lexemes.specs.declared.Lexeme.{Lexeme as Range}
use Rattle.lexemes.specs.Kinds.{EOF, FLOAT, IDENT, STRING_DOUBLE, STRING_SINGLE, STRING_DOUBLE_VERBATIM, STRING_SINGLE_VERBATIM, STRING_BLOCK}
use Rattle.lexemes.specs.Lexeme.{lexeme}
use Rattle.lexemes.specs.Kept.{Lexemes, keep, first_bad}
use Rattle.lexemes.proofs.Munch.{all, lex, lexed}
use Rattle.numerals.specs.Value.{TooLarge}
use Rattle.numerals.specs.Inner.{Says as Judges}
use Rattle.numerals.proofs.Always.{is_too_large, says_too_large}
use Rattle.lexemes.specs.Texts.{plain}
use Rattle.grammar.specs.Trees.{none}
use Rattle.grammar.specs.Lexemes.{Said, says, nothing, Lexeme}
use Rattle.grammar.specs.Productions.{source}
use Rattle.grammar.specs.Reading.{Outcome}
use Rattle.grammar.specs.Says.{Says, its_text, no_text, Told}
use Rattle.grammar.specs.Says as says_of
use Rattle.grammar.specs.Answer.{verdict, Judged, read, valid_setting, prefix_power, document_01}
use Rattle.grammar.specs.Source.{Bad, Kept, kept}
use Rattle.grammar.proofs.Chosen.{holds, and_left, and_right}
use Rattle.grammar.proofs.Execute.{run, sound}
use Rattle.grammar.proofs.Source.{no_meaning}
use Rattle.grammar.proofs.SaysLaws.{no_spoils}

-- all bytes are ASCII
unfoldable pub low : List ℕ → Bool
low [] = true
low (b ∷ s) = ltb b 0x80 && low s

pub low_utf8 : (s : List ℕ) → T (low s) → Utf8 s
unfolding low
low_utf8 [] h = unicode.Utf8.none
low_utf8 (b ∷ s) h =
    let x : In 0x00 0x7F b = omega (arith, ltb→lt b 0x80 (and_left (ltb b 0x80) (low s) h)) in
    unicode.Utf8.more (row_00_7F x) (low_utf8 s (and_right (ltb b 0x80) (low s) h))

-- what a number says
unfoldable pub number_at : List ℕ → Said
number_at t = elim (is_too_large t) [ true ↦ nothing | false ↦ says t ]

-- what names and numbers say; any other kind says nothing, if it is no string
unfoldable pub word_at : List ℕ → ℕ → ℕ → ℕ → Said
unfolding number_at is_too_large
word_at s k a e = elim (eqb k IDENT) [ true ↦ says (slice a e s) | false ↦ elim (eqb k FLOAT) [ true ↦ number_at (plain (slice a e s)) | false ↦ nothing ] ]

unfoldable pub no_string : ℕ → Bool
no_string k = not (eqb k STRING_DOUBLE) && (not (eqb k STRING_SINGLE) && (not (eqb k STRING_DOUBLE_VERBATIM) && (not (eqb k STRING_SINGLE_VERBATIM) && not (eqb k STRING_BLOCK))))

not_eqb : (a b : ℕ) → T (not (eqb a b)) → a ≡ b → ⊥
not_eqb a b h e = by (eqb a b) refl h
  where
    by : (t : Bool) → eqb a b ≡ t → T (not t) → ⊥
    by true q h = h
    by false q h = eqb-false a b q e

number_word : (s : List ℕ) (a e : ℕ) → Says s FLOAT a e (number_at (plain (slice a e s)))
unfolding number_at
number_word s a e = by (is_too_large (plain (slice a e s))) (says_too_large (plain (slice a e s)))
  where
    back : (w : List ℕ) → says_of.Means s FLOAT a e w → TooLarge (plain (slice a e s)) → ⊥
    back w (says_of.Means.number n) = n

    by : (r : Bool) → Judges r (TooLarge (plain (slice a e s))) → Says s FLOAT a e (elim r [ true ↦ nothing | false ↦ says (plain (slice a e s)) ])
    by true l = no_text (λ w m. back w m l) (no_spoils (λ q. omega arith) (λ q. omega arith))
    by false n = its_text (says_of.Means.number n)

word_says : (s : List ℕ) (k a e : ℕ) → T (no_string k) → Says s k a e (word_at s k a e)
unfolding word_at no_string
word_says s k a e h = by (eqb k IDENT) refl (eqb k FLOAT) refl
  where
    A : Bool
    A = not (eqb k STRING_DOUBLE)

    B : Bool
    B = not (eqb k STRING_SINGLE)

    C : Bool
    C = not (eqb k STRING_DOUBLE_VERBATIM)

    D : Bool
    D = not (eqb k STRING_SINGLE_VERBATIM)

    E : Bool
    E = not (eqb k STRING_BLOCK)

    by : (t : Bool) → eqb k IDENT ≡ t → (u : Bool) → eqb k FLOAT ≡ u → Says s k a e (elim t [ true ↦ says (slice a e s) | false ↦ elim u [ true ↦ number_at (plain (slice a e s)) | false ↦ nothing ] ])
    by true q u r = rw (eqb-true k IDENT q) (its_text says_of.Means.name)
    by false q true r = rw (eqb-true k FLOAT r) (number_word s a e)
    by false q false r =
        let h₁ = and_right A (B && (C && (D && E))) h in
        let h₂ = and_right B (C && (D && E)) h₁ in
        let h₃ = and_right C (D && E) h₂ in
        no_text
        (no_meaning s a e k (eqb-false k IDENT q) (eqb-false k FLOAT r) (not_eqb k STRING_DOUBLE (and_left A (B && (C && (D && E))) h)) (not_eqb k STRING_SINGLE (and_left B (C && (D && E)) h₁))
        (not_eqb k STRING_DOUBLE_VERBATIM (and_left C (D && E) h₂)) (not_eqb k STRING_SINGLE_VERBATIM (and_left D E h₃)) (not_eqb k STRING_BLOCK (and_right D E h₃)))
        (no_spoils (not_eqb k STRING_DOUBLE (and_left A (B && (C && (D && E))) h)) (not_eqb k STRING_SINGLE (and_left B (C && (D && E)) h₁)))

unfoldable pub words : List ℕ → List Range → List Lexeme
words s [] = []
words s (l ∷ ls) = record { kind = l.kind; start = l.start; stop = l.end; word = word_at s l.kind l.start l.end } ∷ words s ls

unfoldable pub no_strings : List Range → Bool
no_strings [] = true
no_strings (l ∷ ls) = no_string l.kind && no_strings ls

words_told : (s : List ℕ) (ls : List Range) → T (no_strings ls) → Told s ls (words s ls)
unfolding words no_strings
words_told s [] h = Told.none
words_told s (l ∷ ls) h =
    Told.more (word_says s l.kind l.start l.end (and_left (no_string l.kind) (no_strings ls) h)) (words_told s ls (and_right (no_string l.kind) (no_strings ls) h))

-- a source whose lexemes and what they say are known
pub judge : (s : ℕ) (bytes : List ℕ) (ls : List Range) (xs : List Lexeme) (o : Outcome) → T (valid_setting s) → T (leb (length bytes) 65000) → T (low bytes) → Lexemes bytes 0 ls
    → first_bad (length bytes) ls ≡ lexeme EOF (length bytes) (length bytes) → Told bytes (keep ls) xs → run (prefix_power s) s 2000 source none 200 0 xs ≡ some o → Judged Bad Kept document_01 s bytes (verdict o)
judge s bytes ls xs o h g l m f t r =
    read (holds (valid_setting s) h) (leb→le (length bytes) 65000 g) (low_utf8 bytes l)
    (kept (record { lexemes = ls; all = m; is_first = sym f }) (record { lexemes = ls; all = m; kept = refl }) t)
    (sound (prefix_power s) s 2000 source none 200 0 xs o r)

-- a source without strings: all is computed
pub plainly : (s : ℕ) (bytes : List ℕ) (ls : List Range) (o : Outcome) → T (valid_setting s) → T (leb (length bytes) 65000) → T (low bytes) → lex 500 bytes 0 ≡ all ls
    → first_bad (length bytes) ls ≡ lexeme EOF (length bytes) (length bytes) → T (no_strings (keep ls)) → run (prefix_power s) s 2000 source none 200 0 (words bytes (keep ls)) ≡ some o
    → Judged Bad Kept document_01 s bytes (verdict o)
plainly s bytes ls o h g l m f t r = judge s bytes ls (words bytes (keep ls)) o h g l (lexed bytes 500 0 ls m) f (words_told bytes (keep ls) t) r
