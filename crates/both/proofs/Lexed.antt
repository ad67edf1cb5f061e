-- The lexemes of a JSON text, from its end on: what the kept lexemes are from a place on, and a token or a blank more before it.
-- Assumes nothing.
use mathlib.Core.Path.{◌≡◌, refl, sym, ap, subst, ◌∙◌}
use mathlib.Core.Bool.{true, false, true≢false}
use mathlib.Core.List.{List, [], ◌∷◌, ◌++◌}
use mathlib.Core.Logic.{inl}
use Prim.Native.Nat.{ℕ, zero, suc, ◌+◌, ◌-◌, ◌≤◌, ◌<◌}
use native.Mathlib.Omega.{arith}
use native.Mathlib.Decide.{ℕ_discrete}
use lib.ListN.{length, get_or, take, drop, length-drop, length-append, take-append-drop, get_or-eq_default, get_or-append}
use lib.Seq.{slice, take-add, drop_at, take_at, length-take-le}
use borrow.Author.Tests.{ne_eqb}
use Rattle.strings.specs.Utf8.{Character, Utf8}
use Rattle.strings.specs.Utf8 as unicode
use Rattle.strings.specs.Literals.{Quoted, BadEscape}
use Rattle.strings.proofs.CharacterLaws.{ascii_splits}
use Rattle.numerals.specs.Value.{TooLarge}
use Rattle.lexemes.specs.declared.Lexeme.{Lexeme as Range}
use Rattle.lexemes.specs.Kinds.{FLOAT, STRING_DOUBLE, STRING_BLOCK, NULL_KW, TRUE_KW, FALSE_KW}
use Rattle.lexemes.specs.Scan.{class_of, ascii_class, InWord}
use Rattle.lexemes.specs.Texts.{plain, Identifier}
use Rattle.lexemes.specs.Words.{Spells, word_text, word_kind, word_bytes, word_from}
use Rattle.lexemes.specs.Lexeme.{Ruled, rule}
use Rattle.lexemes.specs.Kept.{dropped, bad}
use Rattle.lexemes.specs.Kept as lexemes
use Rattle.lexemes.proofs.Letters as letters
use Rattle.lexemes.proofs.Classes.{class_zero}
use Rattle.lexemes.proofs.Keywords.{spells_from}
use Rattle.lexemes.proofs.KeptLaws.{NoneBad, also, over, kept_keep, kept_none}
use Rattle.alone.proofs.Alone.{Mark, mark_alone, keyword_alone}
use Rattle.alone.proofs.NumberAlone.{Stops, number_alone}
use Rattle.alone.proofs.StringAlone.{There, there_inside, there_byte, there_first, there_next, there_behind, string_opened}
use Rattle.alone.proofs.Blanks.{blank_before}
use Rattle.grammar.specs.Lexemes.{Said, says, spoiled, Lexeme}
use Rattle.grammar.specs.Says.{Says, its_text, its_escape, Told}
use Rattle.grammar.specs.Says as says_of
use Rattle.grammar.proofs.Source.{says_always}
use Rattle.json_import.specs.Tokens.{At, ◌▹◌, is_blank, Ws, String}
use Rattle.json_import.specs.Tokens as tokens
use Rattle.both.specs.Solidus.{inside, outside, Solidus, SolidusAt}
use Rattle.both.proofs.Numbers.{number_numeral, number_clear, number_some, clear_plain}
use Rattle.both.proofs.Strings.{place, behind, Between, chars_between, chars_ruled, Meant, means, slashed}

-- ── Bytes of a source ─────────────────────────────────────────────────────────────────────────────

-- What is UTF-8 is bytes.
record Low (s : List ℕ) : Type 0 where
  each : (k : ℕ) → get_or s k 0 < 256

byte_before : {b : ℕ} {r : List ℕ} → b < 256 → Low r → Low (b ∷ r)
byte_before {b} {r} h f = record { each = by }
  where
    by : (k : ℕ) → get_or (b ∷ r) k 0 < 256
    by zero = h
    by (suc k) = f.each k

character_bytes : {s r : List ℕ} → Character s r → Low r → Low s
character_bytes (Character.row_00_7F a) f = byte_before (omega (arith, a.1)) f
character_bytes (Character.row_C2_DF a b) f = byte_before (omega (arith, a.1)) (byte_before (omega (arith, b.1)) f)
character_bytes (Character.row_E0 a b c) f = byte_before (omega (arith, a.1)) (byte_before (omega (arith, b.1)) (byte_before (omega (arith, c.1)) f))
character_bytes (Character.row_E1_EC a b c) f = byte_before (omega (arith, a.1)) (byte_before (omega (arith, b.1)) (byte_before (omega (arith, c.1)) f))
character_bytes (Character.row_ED a b c) f = byte_before (omega (arith, a.1)) (byte_before (omega (arith, b.1)) (byte_before (omega (arith, c.1)) f))
character_bytes (Character.row_EE_EF a b c) f = byte_before (omega (arith, a.1)) (byte_before (omega (arith, b.1)) (byte_before (omega (arith, c.1)) f))
character_bytes (Character.row_F0 a b c d) f = byte_before (omega (arith, a.1)) (byte_before (omega (arith, b.1)) (byte_before (omega (arith, c.1)) (byte_before (omega (arith, d.1)) f)))
character_bytes (Character.row_F1_F3 a b c d) f = byte_before (omega (arith, a.1)) (byte_before (omega (arith, b.1)) (byte_before (omega (arith, c.1)) (byte_before (omega (arith, d.1)) f)))
character_bytes (Character.row_F4 a b c d) f = byte_before (omega (arith, a.1)) (byte_before (omega (arith, b.1)) (byte_before (omega (arith, c.1)) (byte_before (omega (arith, d.1)) f)))

utf8_low : {s : List ℕ} → Utf8 s → Low s
utf8_low unicode.Utf8.none = record { each = λ k. omega arith }
utf8_low (unicode.Utf8.more c u) = character_bytes c (utf8_low u)

-- A part of a source that stands at a place.
pub slice_there : {s : List ℕ} {a : ℕ} (w r : List ℕ) → a ≤ length s → There s a (w ++ r) → slice a (a + length w) s ≡ w
slice_there {s} {a} w r h e =
    ap (drop a) (take-add a (length w) s) ∙ drop_at (take a s) (take (length w) (drop a s)) a (length-take-le a s h) ∙ ap (take (length w)) e.rest ∙ take_at w r (length w) refl

-- It spells itself there.
spells_there : {s : List ℕ} {a : ℕ} (w r : List ℕ) → There s a (w ++ r) → Spells s w a (a + length w)
spells_there {s} {a} w r e = spells_from s w a (a + length w) refl (λ k h. there_byte k e ∙ get_or-append w r 0 k h)

-- ── Kept lexemes from a place on ──────────────────────────────────────────────────────────────────

abbrev pub lx : ℕ → ℕ → ℕ → Said → Lexeme
lx k a e v = record { kind = k; start = a; stop = e; word = v }

-- From this place of s on the kept lexemes are xs, with what they say, and none is bad.
pub record Left (s : List ℕ) (h : At) (xs : List Lexeme) : Type 0 where
  pub ranges : List Range
  pub kept : lexemes.Kept s (place h) ranges
  pub told : Told s ranges xs
  pub good : NoneBad ranges

-- A kind that is kept and not bad, and of no block.
record Fine (k : ℕ) : Type 0 where
  kept : dropped k ≡ false
  good : bad k ≡ false
  no_block : k ≡ STRING_BLOCK → ⊥

-- A LEXEME MORE.
lexeme_left : {s : List ℕ} {h g : At} {k : ℕ} {v : Said} {xs : List Lexeme} → place h < length s → Ruled s (place h) k (place g) → Fine k → Says s k (place h) (place g) v → Left s g xs
    → Left s h (lx k (place h) (place g) v ∷ xs)
lexeme_left l r f w m =
    record { ranges = _; kept = kept_keep l (rule l r f.no_block refl) f.kept m.kept; told = Told.more w m.told; good = also f.good m.good }

-- The end of the text.
pub end_left : {s : List ℕ} {n : ℕ} → There s n [] → Left s (n ▹ []) []
end_left {s} {n} e = record { ranges = []; kept = kept_none (omega (arith, ap length e.rest, length-drop n s)); told = Told.none; good = over }

-- ── Marks ─────────────────────────────────────────────────────────────────────────────────────────

mark_fine : {b k : ℕ} → Mark b k → Fine k
unfolding dropped bad
mark_fine Mark.l_paren = record { kept = refl; good = refl; no_block = λ e. omega (arith, e) }
mark_fine Mark.r_paren = record { kept = refl; good = refl; no_block = λ e. omega (arith, e) }
mark_fine Mark.l_brack = record { kept = refl; good = refl; no_block = λ e. omega (arith, e) }
mark_fine Mark.r_brack = record { kept = refl; good = refl; no_block = λ e. omega (arith, e) }
mark_fine Mark.l_brace = record { kept = refl; good = refl; no_block = λ e. omega (arith, e) }
mark_fine Mark.r_brace = record { kept = refl; good = refl; no_block = λ e. omega (arith, e) }
mark_fine Mark.colon = record { kept = refl; good = refl; no_block = λ e. omega (arith, e) }
mark_fine Mark.semi = record { kept = refl; good = refl; no_block = λ e. omega (arith, e) }
mark_fine Mark.comma = record { kept = refl; good = refl; no_block = λ e. omega (arith, e) }
mark_fine Mark.dollar = record { kept = refl; good = refl; no_block = λ e. omega (arith, e) }
mark_fine Mark.plus = record { kept = refl; good = refl; no_block = λ e. omega (arith, e) }
mark_fine Mark.minus = record { kept = refl; good = refl; no_block = λ e. omega (arith, e) }
mark_fine Mark.tilde = record { kept = refl; good = refl; no_block = λ e. omega (arith, e) }

-- A lexeme of this kind and these ends before xs, whatever it says.
pub record Before (s : List ℕ) (h : At) (k a e : ℕ) (xs : List Lexeme) : Type 0 where
  pub said : Said
  pub left : Left s h (lx k a e said ∷ xs)

-- A MARK.
pub mark_left : {s : List ℕ} {i b k : ℕ} {r : List ℕ} {xs : List Lexeme} → Mark b k → There s i (b ∷ r) → Left s (i + 1 ▹ r) xs → Before s (i ▹ b ∷ r) k i (i + 1) xs
mark_left {s} {i} {b} {k} m e x =
    let w = says_always s i (i + 1) k in
    record { said = w.0; left = lexeme_left (there_inside e) (mark_alone s i (there_first e) m) (mark_fine m) w.1 x }

-- ── White space ───────────────────────────────────────────────────────────────────────────────────

blank_class : (b : ℕ) → is_blank b ≡ true → class_of b ≡ 4
unfolding class_of ascii_class
blank_class b e = by (ℕ_discrete b 0x20) (ℕ_discrete b 0x09) (ℕ_discrete b 0x0A) (ℕ_discrete b 0x0D)
  where
    by : Dec (b ≡ 0x20) → Dec (b ≡ 0x09) → Dec (b ≡ 0x0A) → Dec (b ≡ 0x0D) → class_of b ≡ 4
    by (yes q) d₂ d₃ d₄ = ap class_of q
    by (no n) (yes q) d₃ d₄ = ap class_of q
    by (no n) (no n₂) (yes q) d₄ = ap class_of q
    by (no n) (no n₂) (no n₃) (yes q) = ap class_of q
    by (no n) (no n₂) (no n₃) (no n₄) = absurd (true≢false (sym e ∙ simp (ne_eqb b 0x20 n, ne_eqb b 0x09 n₂, ne_eqb b 0x0A n₃, ne_eqb b 0x0D n₄) refl))

module _ {s : List ℕ} where
  -- The same text stands on, and the same lexemes are kept.
  pub ws_there : {h g : At} → Ws h g → There s (place h) (behind h) → There s (place g) (behind g)
  ws_there Ws.none e = e
  ws_there (Ws.more b w) e = ws_there w (there_next e)

  pub ws_left : {h g : At} {xs : List Lexeme} → Ws h g → There s (place h) (behind h) → Left s g xs → Left s h xs
  ws_left Ws.none e x = x
  ws_left (Ws.more {b = b} t w) e x =
      let y = ws_left w (there_next e) x in
      record { ranges = y.ranges; kept = blank_before s (there_inside e) (ap class_of (there_first e) ∙ blank_class b t) y.kept; told = y.told; good = y.good }

-- Blanks stand outside strings.
pub ws_on : {h g : At} → Ws h g → Solidus outside (behind h) → Solidus outside (behind g)
ws_on Ws.none x = x
ws_on (Ws.more t w) (Solidus.before n x) = ws_on w x
ws_on (Ws.more t w) (Solidus.opens x) = absurd (true≢false (sym t))

pub ws_back : {h g : At} → Ws h g → Solidus outside (behind g) → Solidus outside (behind h)
ws_back Ws.none x = x
ws_back (Ws.more t w) x = Solidus.before (λ q. true≢false (sym t ∙ ap is_blank q)) (ws_back w x)

-- ── What follows ──────────────────────────────────────────────────────────────────────────────────

-- What may stand behind a value: nothing, a blank, a comma, or a bracket that closes.
pub data Follows : List ℕ → Type 0 where
  nothing : Follows []
  blank : {b : ℕ} {r : List ℕ} → is_blank b ≡ true → Follows (b ∷ r)
  comma : {r : List ℕ} → Follows (0x2C ∷ r)
  brack : {r : List ℕ} → Follows (0x5D ∷ r)
  brace : {r : List ℕ} → Follows (0x7D ∷ r)

-- No word and no number goes on with the byte.
record Quiet (b : ℕ) : Type 0 where
  no_word : InWord b → ⊥
  no_point : b ≡ 46 → ⊥

quiet_class : (b k : ℕ) → class_of b ≡ k → (1 ≤ k → k ≤ 3 → ⊥) → (b ≡ 46 → ⊥) → Quiet b
quiet_class b k e n m = record { no_word = λ w. n (omega (arith, w.0)) (omega (arith, w.1)); no_point = m }

blank_no_point : (b : ℕ) → is_blank b ≡ true → b ≡ 46 → ⊥
blank_no_point b e q = true≢false (sym e ∙ ap is_blank q)

follows_quiet : {s : List ℕ} {e : ℕ} {r : List ℕ} → There s e r → Follows r → Quiet (get_or s e 0)
unfolding class_of ascii_class
follows_quiet {s} {e} t nothing =
    let z : get_or s e 0 ≡ 0 = get_or-eq_default s 0 {n = e} (omega (arith, ap length t.rest, length-drop e s)) in
    quiet_class (get_or s e 0) 0 (ap class_of z ∙ class_zero) (λ a b. omega arith) (λ q. omega arith)
follows_quiet {s} {e} t (blank {b} x) =
    let z = there_first t in
    quiet_class (get_or s e 0) 4 (ap class_of z ∙ blank_class b x) (λ a b. omega arith) (λ q. blank_no_point b x (sym z ∙ q))
follows_quiet {s} {e} t comma = let z = there_first t in quiet_class (get_or s e 0) 10 (ap class_of z) (λ a b. omega arith) (λ q. omega arith)
follows_quiet {s} {e} t brack = let z = there_first t in quiet_class (get_or s e 0) 10 (ap class_of z) (λ a b. omega arith) (λ q. omega arith)
follows_quiet {s} {e} t brace = let z = there_first t in quiet_class (get_or s e 0) 10 (ap class_of z) (λ a b. omega arith) (λ q. omega arith)

quiet_stops : {b : ℕ} → Quiet b → Stops b
unfolding class_of ascii_class
quiet_stops {b} q =
    record {
      no_digit = λ d. q.no_word (omega (arith, d.0), omega (arith, d.1));
      no_group = λ e. q.no_word (word e refl);
      no_point = q.no_point;
      no_e = λ e. q.no_word (word e refl);
      no_E = λ e. q.no_word (word e refl);
    }
  where
    word : {c : ℕ} → b ≡ c → class_of c ≡ 1 → InWord b
    word e k = let z : class_of b ≡ 1 = ap class_of e ∙ k in (omega arith, omega arith)

-- ── Words ─────────────────────────────────────────────────────────────────────────────────────────

long_inside : {s : List ℕ} {i : ℕ} (w r : List ℕ) → 1 ≤ length w → There s i (w ++ r) → (i < length s) × (i + length w ≤ length s)
long_inside {s} {i} w r h e =
    let q = ap length e.rest in
    (omega (arith, length-drop i s, length-append w r), omega (arith, length-drop i s, length-append w r))

-- A KEYWORD, where no word goes on with what follows.
word_left : {s : List ℕ} {i : ℕ} {xs : List Lexeme} (v : ℕ) (w r : List ℕ) → Utf8 s → v < 18 → w ≡ word_text v → Identifier w → 1 ≤ length w → Fine (get_or word_kind v 0) → Follows r
    → There s i (w ++ r) → Left s (i + length w ▹ r) xs → Before s (i ▹ w ++ r) (get_or word_kind v 0) i (i + length w) xs
word_left {s} {i} v w r u h q word some f after e x =
    let l = long_inside w r some e in
    let says = says_always s i (i + length w) (get_or word_kind v 0) in
    let quiet = follows_quiet (there_behind w r e) after in
    record {
      said = says.0;
      left = lexeme_left l.0
          (keyword_alone s w i (i + length w) (utf8_low u).each (spells_there w r e) word l.1 v h q quiet.no_word) f says.1 x;
    }

pub null_left : {s : List ℕ} {i : ℕ} {r : List ℕ} {xs : List Lexeme} → Utf8 s → Follows r → There s i (0x6E ∷ 0x75 ∷ 0x6C ∷ 0x6C ∷ r) → Left s (i + 4 ▹ r) xs
    → Before s (i ▹ 0x6E ∷ 0x75 ∷ 0x6C ∷ 0x6C ∷ r) NULL_KW i (i + 4) xs
unfolding word_text word_bytes word_from word_kind dropped bad
null_left {r = r} u f e x =
    word_left 11 (0x6E ∷ 0x75 ∷ 0x6C ∷ 0x6C ∷ []) r u (omega arith) refl (tt, (tt, (tt, (tt, tt)))) (omega arith) record { kept = refl; good = refl; no_block = λ e. omega (arith, e) } f e x

pub true_left : {s : List ℕ} {i : ℕ} {r : List ℕ} {xs : List Lexeme} → Utf8 s → Follows r → There s i (0x74 ∷ 0x72 ∷ 0x75 ∷ 0x65 ∷ r) → Left s (i + 4 ▹ r) xs
    → Before s (i ▹ 0x74 ∷ 0x72 ∷ 0x75 ∷ 0x65 ∷ r) TRUE_KW i (i + 4) xs
unfolding word_text word_bytes word_from word_kind dropped bad
true_left {r = r} u f e x =
    word_left 12 (0x74 ∷ 0x72 ∷ 0x75 ∷ 0x65 ∷ []) r u (omega arith) refl (tt, (tt, (tt, (tt, tt)))) (omega arith) record { kept = refl; good = refl; no_block = λ e. omega (arith, e) } f e x

pub false_left : {s : List ℕ} {i : ℕ} {r : List ℕ} {xs : List Lexeme} → Utf8 s → Follows r → There s i (0x66 ∷ 0x61 ∷ 0x6C ∷ 0x73 ∷ 0x65 ∷ r) → Left s (i + 5 ▹ r) xs
    → Before s (i ▹ 0x66 ∷ 0x61 ∷ 0x6C ∷ 0x73 ∷ 0x65 ∷ r) FALSE_KW i (i + 5) xs
unfolding word_text word_bytes word_from word_kind dropped bad
false_left {r = r} u f e x =
    word_left 13 (0x66 ∷ 0x61 ∷ 0x6C ∷ 0x73 ∷ 0x65 ∷ []) r u (omega arith) refl (tt, (tt, (tt, (tt, (tt, tt))))) (omega arith) record { kept = refl; good = refl; no_block = λ e. omega (arith, e) } f e x

-- ── Numbers ───────────────────────────────────────────────────────────────────────────────────────

-- A NUMBER, where none goes on with what follows.
pub number_left : {s : List ℕ} {i : ℕ} {w r : List ℕ} {xs : List Lexeme} → Utf8 s → tokens.Number w → (TooLarge w → ⊥) → Follows r → There s i (w ++ r)
    → Left s (i + length w ▹ r) xs → Left s (i ▹ w ++ r) (lx FLOAT i (i + length w) (says w) ∷ xs)
unfolding dropped bad
number_left {s} {i} {w} {r} u n small after e x =
    let l = long_inside w r (number_some n) e in
    let quiet = follows_quiet (there_behind w r e) after in
    let q : plain (slice i (i + length w) s) ≡ w = ap plain (slice_there w r (omega (arith, l.0)) e) ∙ clear_plain w (number_clear n) in
    lexeme_left l.0 (number_alone s (utf8_low u).each i (i + length w) w (number_numeral n) (spells_there w r e) l.1 (quiet_stops quiet))
    record { kept = refl; good = refl; no_block = λ e. omega (arith, e) }
    (subst (λ (t : List ℕ). Says s FLOAT i (i + length w) (says t)) q (its_text (says_of.Means.number (λ large. small (subst TooLarge q large))))) x

-- ── Strings ───────────────────────────────────────────────────────────────────────────────────────

-- What the lexeme of a string at a says: its text, and it has no `\/`; or it is spoiled, by a `\/`, and it has.
pub data Tells (s : List ℕ) (a : ℕ) (w r q : List ℕ) : Said → Type 0 where
  text : (Solidus outside r → Solidus outside q) → (Solidus outside q → Solidus outside r) → Tells s a w r q (says w)
  slash : {n : ℕ} → SolidusAt s (a + 1 + n) → Solidus outside r → Tells s a w r q (spoiled n)

pub record StringLeft (s : List ℕ) (h : At) (w : List ℕ) (g : At) (xs : List Lexeme) : Type 0 where
  pub said : Said
  pub tells : Tells s (place h) w (behind h) (behind g) said
  pub left : Left s h (lx STRING_DOUBLE (place h) (place g) said ∷ xs)

unquoted : {r : List ℕ} → Solidus outside (0x22 ∷ r) → Solidus inside r
unquoted (Solidus.before n x) = absurd (n refl)
unquoted (Solidus.opens x) = x

rest-utf8 : {s : List ℕ} {i : ℕ} {r : List ℕ} → Utf8 s → There s i (0x22 ∷ r) → Utf8 r
rest-utf8 {s} {i} {r} u e =
    (ascii_splits (take i s) (subst Utf8 (sym (take-append-drop i s) ∙ ap (λ (x : List ℕ). take i s ++ x) e.rest) u) (omega arith)).1

string_ruled : {s : List ℕ} {h g : At} {w : List ℕ} → Utf8 s → String h w g → There s (place h) (behind h) → Ruled s (place h) STRING_DOUBLE (place g) × There s (place g) (behind g)
string_ruled u (tokens.String.string c) e = chars_ruled c (there_next e) (string_opened (inl (refl, refl)) (omega arith) e (rest-utf8 u e))

pub string_there : {s : List ℕ} {h g : At} {w : List ℕ} → Utf8 s → String h w g → There s (place h) (behind h) → There s (place g) (behind g)
string_there u c e = (string_ruled u c e).1

-- A STRING, whatever follows.
pub string_left : {s : List ℕ} {h g : At} {w : List ℕ} {xs : List Lexeme} → Utf8 s → String h w g → There s (place h) (behind h) → Left s g xs → StringLeft s h w g xs
unfolding dropped bad
string_left {s} {g = g} {w = w} {xs = xs} u (tokens.String.string {i = i} {s = r} c) e x = by b.meant
  where
    b : Between (i + 1) r w g
    b = chars_between c

    cut : slice (i + 1) (place g - 1) s ≡ b.inner
    cut =
        let end : place g - 1 ≡ i + 1 + length b.inner = omega (arith, b.long) in
        ap (λ (j : ℕ). slice (i + 1) j s) end
        ∙ slice_there {s = s} {a = i + 1} b.inner (0x22 ∷ behind g) (omega (arith, there_inside e)) record { rest = (there_next e).rest ∙ b.joined }

    -- A byte between the quotes.
    within : (k : ℕ) → 0 < get_or b.inner k 0 → get_or s (i + 1 + k) 0 ≡ get_or b.inner k 0
    within k l =
        there_byte {s = s} {i = i + 1} k record { rest = (there_next e).rest ∙ b.joined } ∙ get_or-append b.inner (0x22 ∷ behind g) 0 k (letters.inside b.inner k l)

    further : (n : ℕ) → get_or s (i + 1 + n + 1) 0 ≡ get_or s (i + 1 + (n + 1)) 0
    further n = let q : i + 1 + n + 1 ≡ i + 1 + (n + 1) = omega arith in ap (λ (x : ℕ). get_or s x 0) q

    with_said : {v : Said} → Says s STRING_DOUBLE i (place g) v → Left s (i ▹ 0x22 ∷ r) (lx STRING_DOUBLE i (place g) v ∷ xs)
    with_said y = lexeme_left {h = i ▹ 0x22 ∷ r} (there_inside e) (string_ruled u (tokens.String.string c) e).0 record { kept = refl; good = refl; no_block = λ e. omega (arith, e) } y x

    by : Meant r w (behind g) b.inner → StringLeft s (i ▹ 0x22 ∷ r) w g xs
    by (means q f k) =
        record {
          said = says w;
          tells = text (λ z. f (unquoted z)) (λ z. Solidus.opens (k z));
          left = with_said (its_text (says_of.Means.double (subst (λ (t : List ℕ). Quoted t w) (sym cut) q)));
        }
    by (slashed {n} q p y) =
        record {
          said = spoiled n;
          tells = slash record { backslash = within n (omega (arith, p.backslash)) ∙ p.backslash; solidus = further n ∙ within (n + 1) (omega (arith, p.solidus)) ∙ p.solidus } (Solidus.opens y);
          left = with_said (its_escape (says_of.in_double (subst (λ (t : List ℕ). BadEscape t n) (sym cut) q)));
        }
