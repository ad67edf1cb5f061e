-- No text has a second answer.
-- Assumes nothing.
use mathlib.Core.Path.{◌≡◌, refl, sym, ap, ◌∙◌}
use mathlib.Core.Bool.{Bool, true, false}
use mathlib.Core.List.{List, []}
use Prim.Native.Nat.{ℕ, ◌≤◌, ◌<◌}
use native.Mathlib.Omega.{arith}
use lib.Dec.{T, leb, leb→le, nleb→lt}
use Rattle.strings.proofs.CharacterLaws.{valid_to_once}
use Rattle.numerals.specs.Inner.{Says}
use Rattle.numerals.specs.Value.{TooLarge}
use Rattle.numerals.proofs.Always.{is_too_large, says_too_large}
use Rattle.grammar.specs.Numbers.{ENCODING}
use Rattle.grammar.specs.Answer.{Answer, Verdict, refused, answer, output}
use Rattle.grammar.proofs.Whole.{utf8_cut}
use Rattle.json_import.specs.Json.{NOT_JSON, Text, whole, broken_off, TooDeep, Continues, Judged, too_long, not_utf8, read, not_json, ReadsJson}
use Rattle.json_import.specs.Machine.{want, is_deep, finish, run}
use Rattle.json_import.proofs.Skips.{skip_want, skip_after}
use Rattle.json_import.proofs.Runs.{reads_run}

-- ── A text's run ──────────────────────────────────────────────────────────────────────────────────

module _ (Deep : ℕ → Type 0) (Large : List ℕ → Type 0) (deep : ℕ → Bool) (vast : List ℕ → Bool) (says-deep : (k : ℕ) → Says (deep k) (Deep k))
    (says-vast : (w : List ℕ) → Says (vast w) (Large w)) where
  pub text_run : {s : List ℕ} {v : Verdict} → Text Deep Large s v → run deep vast (want []) 0 s ≡ v
  unfolding run finish
  text_run (whole w r e) = skip_want deep vast [] w ∙ reads_run Deep Large deep vast says-deep says-vast r [] refl ∙ skip_after deep vast _ [] e
  text_run (broken_off w r) = skip_want deep vast [] w ∙ reads_run Deep Large deep vast says-deep says-vast r [] refl

-- The two sets of limits that there are: 01's, and none.
pub says_is_deep : (k : ℕ) → Says (is_deep k) (TooDeep k)
says_is_deep k = by (leb 200 k) (leb→le 200 k) (nleb→lt 200 k)
  where
    by : (r : Bool) → (T r → 200 ≤ k) → (T (mathlib.Core.Bool.not r) → k < 200) → Says r (200 ≤ k)
    by true f g = f tt
    by false f g = λ a. omega (arith, g tt, a)

pub text_run_01 : {s : List ℕ} {v : Verdict} → Text TooDeep TooLarge s v → run is_deep is_too_large (want []) 0 s ≡ v
text_run_01 = text_run TooDeep TooLarge is_deep is_too_large says_is_deep says_too_large

-- ── One answer ────────────────────────────────────────────────────────────────────────────────────

continues_once : {s : List ℕ} {m n : ℕ} → Continues s m → Continues s n → m ≡ n
continues_once {m = m} {n = n} a b = omega (arith, a.longest n b.within b.begins, b.longest m a.within a.begins)

pub judged_once : {s : List ℕ} {v w : Verdict} → Judged s v → Judged s w → v ≡ w
judged_once (too_long a) (too_long b) = refl
judged_once (too_long a) (not_utf8 b c d) = absurd (omega arith)
judged_once (too_long a) (read b c d) = absurd (omega arith)
judged_once (too_long a) (not_json b c d e) = absurd (omega arith)
judged_once (not_utf8 a b c) (too_long d) = absurd (omega arith)
judged_once (not_utf8 a b c) (not_utf8 d e f) = ap (λ (n : ℕ). refused ENCODING n n 0) (valid_to_once b e)
judged_once (not_utf8 a b c) (read d e f) = absurd (utf8_cut b c e)
judged_once (not_utf8 a b c) (not_json d e f g) = absurd (utf8_cut b c e)
judged_once (read a b c) (too_long d) = absurd (omega arith)
judged_once (read a b c) (not_utf8 d e f) = absurd (utf8_cut e f b)
judged_once (read a b c) (read d e f) = sym (text_run_01 c) ∙ text_run_01 f
judged_once (read a b c) (not_json d e f g) = absurd (f _ c)
judged_once (not_json a b c d) (too_long e) = absurd (omega arith)
judged_once (not_json a b c d) (not_utf8 e f g) = absurd (utf8_cut f g b)
judged_once (not_json a b c d) (read e f g) = absurd (c _ g)
judged_once (not_json a b c d) (not_json e f g h) = ap (λ (n : ℕ). refused NOT_JSON n n 0) (continues_once d h)

-- NO SECOND ANSWER, and no second output.
pub one_answer : {s out out' : List ℕ} {room : ℕ} {a a' : Answer} → ReadsJson s room a out → ReadsJson s room a' out' → (a ≡ a') × (out ≡ out')
one_answer {room = room} x y =
    let same = judged_once x.judged y.judged in
    (x.answered ∙ ap (λ (v : Verdict). answer room v) same ∙ sym y.answered, x.written ∙ ap (λ (v : Verdict). output room v) same ∙ sym y.written)
