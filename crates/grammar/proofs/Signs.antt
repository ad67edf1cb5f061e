-- The binding of signs. With setting 8 a sign's operand is a suffixed expression or another sign with its operand, never an operation outside
-- parentheses: the order of the Jsonnet specification. Without 8 it is the Rust's. A source with no prefix sign reads alike under both.
-- Assumes nothing.
use mathlib.Core.Path.{◌≡◌, refl, sym, ap, subst, subst⁻¹, ◌∙◌}
use mathlib.Core.Bool.{Bool, true, false, cond, ◌&&◌}
use mathlib.Core.List.{List, [], ◌∷◌}
use mathlib.Core.Option.{Option, some, none as nowhere}
use Prim.Native.Nat.{ℕ, zero, suc, ◌+◌, ◌/◌, ◌%◌, ◌≤◌, ◌<◌}
use native.Mathlib.Omega.{arith}
use lib.Dec.{T, eqb, leb, leb→le}
use lib.ListN.{length}
use borrow.Author.Tests.{eqb-true, le-leb}
use Rattle.lexemes.specs.declared.Lexeme.{Lexeme as Range}
use Rattle.lexemes.specs.Kinds.{EOF}
use Rattle.lexemes.specs.Letters.{ascii}
use Rattle.lexemes.specs.Lexeme.{lexeme}
use Rattle.lexemes.specs.Rules.{rules}
use Rattle.lexemes.specs.Kept.{keep, first_bad}
use Rattle.lexemes.specs.Kept as lexemes
use Rattle.lexemes.specs.Texts.{plain as digits}
use Rattle.lexemes.proofs.Munch.{all, lex}
use Rattle.grammar.specs.Tags.{PREFIX}
use Rattle.grammar.specs.Trees.{byte, Trees, none, tree as a-tree, ◌⊕◌, count}
use Rattle.grammar.specs.Lexemes.{Lexeme, rest, kind_of, good, said}
use Rattle.grammar.specs.Productions.{Phrase, expr, Body, Switch, always, exp_destruct, exp_object_iteration, exp_null_coaelse, row, Table, otherwise, ◌∣◌, rule, source, Sign, sign, signs}
use Rattle.grammar.specs.Productions.{Operator, op, operators}
use Rattle.grammar.specs.Reading.{has, published, choose, view, production, Outcome, done, broken, Reading, ended, failed, gone, eaten, uneaten, leafed, closed, subbed, unsubbed, deepened, undeepened, too_deep}
use Rattle.grammar.specs.Operators.{sign_in, prefix_of}
use Rattle.std.specs.Prelude.{Some, None}
use Rattle.grammar.specs.Answer.{Answer, Verdict, refused, tree, verdict, Judged, bad_setting, too_long, not_utf8, bad_lexeme, read, valid_setting, prefix_power, document_01}
use Rattle.grammar.specs.Source.{Bad, Kept, Reads01}
use Rattle.grammar.specs.Settings.{Signed, signed, Unsigned, NoPrefixSign}
use Rattle.grammar.specs.Spells.{Lexemes, ◌is◌then◌, Unary, Binary, Open, Spells, Category as C}
use Rattle.grammar.proofs.Alike.{Alike, placeless, placeless_fields, one_placeless}
use Rattle.grammar.proofs.Tables.{Facts, plain as alone, switched, an_expr, facts}
use Rattle.grammar.proofs.Chosen.{true_false, and_left, and_right}
use Rattle.grammar.proofs.OperatorLaws.{signed as sign-body, prefix_chosen}
use Rattle.grammar.proofs.OperatorForms.{Signs, signs_sound, Found, here, there, found}
use Rattle.grammar.proofs.Execute.{run, after}
use Rattle.grammar.proofs.Source.{reads_once}
use Rattle.grammar.proofs.Computed.{low, words, word_at, no_string, no_strings, plainly}

-- ── What a sign stands before ─────────────────────────────────────────────────────────────────────

unfoldable none_above : ℕ → List Operator → Bool
none_above n [] = true
none_above n (op k g l r o ∷ rest) = leb l n && none_above n rest

level : {s k l o : ℕ} {ops : List Operator} (n : ℕ) → Found s k l o ops → T (none_above n ops) → l ≤ n
unfolding none_above
level {l = l} n (here {rest = rest} on) h = leb→le l n (and_left (leb l n) (none_above n rest) h)
level n (there {l' = l'} {rest = rest} off f) h = level n f (and_right (leb l' n) (none_above n rest) h)

-- No operator's level is above 20: as a prefix power 21 would read as 22 does.
pub highest_level : {s k l o : ℕ} → Binary s k l o → l ≤ 20
unfolding none_above operators
highest_level {s} b = level 20 (found s b) tt

pub power_with_8 : (s : ℕ) → published s ≡ true → prefix_power s ≡ 22
unfolding prefix_power
power_with_8 s on = ap (λ (b : Bool). cond b 22 20) on

pub power_without_8 : (s : ℕ) → published s ≡ false → prefix_power s ≡ 20
unfolding prefix_power
power_without_8 s off = ap (λ (b : Bool). cond b 22 20) off

module _ (s : ℕ) (Ends : Open → ℕ → Type 0) where
  -- A suffixed expression; or another sign, and what it stands before.
  pub data SignOperand (prefix : ℕ) : ℕ → Lexemes → Trees → Lexemes → Type 0 where
    a_suffixed : {d : ℕ} {xs ys : Lexemes} {t : Trees} → Spells prefix s Ends d C.suffixed xs t ys → SignOperand prefix d xs t ys
    another_sign : {d k o : ℕ} {xs ys zs : Lexemes} {t : Trees} → Unary k o → xs is k then ys → Spells prefix s Ends d (C.expr prefix) ys t zs
        → SignOperand prefix d xs (a-tree PREFIX (byte o ∷ []) t) zs

  above_all : {prefix m d : ℕ} {xs ys : Lexemes} {t : Trees} → 20 < m → Spells prefix s Ends (suc d) (C.expr m) xs t ys → SignOperand prefix d xs t ys
  above_all h (Spells.whole (Spells.operand x) g) = a_suffixed x
  above_all h (Spells.whole (Spells.prefixed u k x) g) = another_sign u k x
  above_all h (Spells.whole (Spells.infixed b le x k y) g) = absurd (omega (arith, highest_level b))

  -- WITH 8 WHAT A SIGN STANDS BEFORE is a suffixed expression, suffixes and all, or another sign and what that stands before: no operation, if not in
  -- parentheses.
  pub sign_operand : {d : ℕ} {xs ys : Lexemes} {t : Trees} → published s ≡ true → Spells (prefix_power s) s Ends (suc d) (C.expr (prefix_power s)) xs t ys
      → SignOperand (prefix_power s) d xs t ys
  sign_operand on x = above_all (let e = power_with_8 s on in omega (arith, e)) x

-- ── Worked readings ───────────────────────────────────────────────────────────────────────────────

-- Under a setting two sources have one tree, but for spans.
abbrev pub Same : ℕ → List ℕ → List ℕ → Type 0
Same s x y = (ts : Trees) × (us : Trees) × Judged Bad Kept document_01 s x (tree ts) × Judged Bad Kept document_01 s y (tree us) × Alike ts us

-- What setting 8 gives, and what the others give.
pub record Readings : Type 0 where
  pub sign_before_product : Same 8 (ascii "-a*b") (ascii "(-a)*b")
  pub sign_between_products : Same 8 (ascii "a*-b*c") (ascii "(a*(-b))*c")
  pub reviewers_file : Same 8 (ascii "~mask * n") (ascii "(~mask) * n")
  pub part_stays_inside : Same 8 (ascii "-a.b") (ascii "-(a.b)")
  pub call_stays_inside : Same 8 (ascii "-f(x)") (ascii "-(f(x))")
  pub product_before_sign : Same 0 (ascii "-a*b") (ascii "-(a*b)")
  pub product_inside : Same 0 (ascii "a*-b*c") (ascii "a*(-(b*c))")

pub readings : Readings
unfolding placeless placeless_fields lex rules first_bad keep lexemes.bad lexemes.dropped no_strings no_string words word_at digits low run after prefix_power published production choose rule view has ◌⊕◌ count good said verdict
readings =
    record {
      sign_before_product = (_, _, plainly 8 _ _ _ tt tt tt refl refl tt refl, plainly 8 _ _ _ tt tt tt refl refl tt refl, one_placeless refl);
      sign_between_products = (_, _, plainly 8 _ _ _ tt tt tt refl refl tt refl, plainly 8 _ _ _ tt tt tt refl refl tt refl, one_placeless refl);
      reviewers_file = (_, _, plainly 8 _ _ _ tt tt tt refl refl tt refl, plainly 8 _ _ _ tt tt tt refl refl tt refl, one_placeless refl);
      part_stays_inside = (_, _, plainly 8 _ _ _ tt tt tt refl refl tt refl, plainly 8 _ _ _ tt tt tt refl refl tt refl, one_placeless refl);
      call_stays_inside = (_, _, plainly 8 _ _ _ tt tt tt refl refl tt refl, plainly 8 _ _ _ tt tt tt refl refl tt refl, one_placeless refl);
      product_before_sign = (_, _, plainly 0 _ _ _ tt tt tt refl refl tt refl, plainly 0 _ _ _ tt tt tt refl refl tt refl, one_placeless refl);
      product_inside = (_, _, plainly 0 _ _ _ tt tt tt refl refl tt refl, plainly 0 _ _ _ tt tt tt refl refl tt refl, one_placeless refl);
    }

-- NOTHING IS CLAIMED ACROSS 8: `-a*` so many times and then `1` nests two levels each time without 8, and not at all with it.
unfoldable pub signs_and_products : ℕ → List ℕ
signs_and_products zero = 0x31 ∷ []
signs_and_products (suc n) = 0x2D ∷ 0x61 ∷ 0x2A ∷ signs_and_products n

pub too_deep_without_8 : Judged Bad Kept document_01 0 (signs_and_products 100) (refused 11 300 301 0)
unfolding signs_and_products lex rules first_bad keep lexemes.bad lexemes.dropped no_strings no_string words word_at digits low run after prefix_power published production choose rule view has ◌⊕◌ count good said verdict
too_deep_without_8 = plainly 0 _ _ _ tt tt tt refl refl tt refl

-- Some tree, which is not written out.
unfoldable has-tree : Option Outcome → Bool
has-tree nowhere = false
has-tree (some (done ts p xs)) = true
has-tree (some (broken n p xs x)) = false

plainly_some : (s : ℕ) (bytes : List ℕ) (ls : List Range) → T (valid_setting s) → T (leb (length bytes) 65000) → T (low bytes) → lex 500 bytes 0 ≡ all ls
    → first_bad (length bytes) ls ≡ lexeme EOF (length bytes) (length bytes) → T (no_strings (keep ls))
    → T (has-tree (run (prefix_power s) s 2000 source none 200 0 (words bytes (keep ls)))) → (ts : Trees) × Judged Bad Kept document_01 s bytes (tree ts)
unfolding has-tree verdict
plainly_some s bytes ls h g l m f t e = by (run (prefix_power s) s 2000 source none 200 0 (words bytes (keep ls))) refl e
  where
    by : (o : Option Outcome) → run (prefix_power s) s 2000 source none 200 0 (words bytes (keep ls)) ≡ o → T (has-tree o) → (ts : Trees) × Judged Bad Kept document_01 s bytes (tree ts)
    by nowhere r e = absurd e
    by (some (done ts p xs)) r e = (ts, plainly s bytes ls (done ts p xs) h g l m f t r)
    by (some (broken n p xs x)) r e = absurd e

pub a_tree_with_8 : (ts : Trees) × Judged Bad Kept document_01 8 (signs_and_products 100) (tree ts)
unfolding signs_and_products has-tree lex rules first_bad keep lexemes.bad lexemes.dropped no_strings no_string words word_at digits low run after prefix_power published production choose rule view has ◌⊕◌ count good said
a_tree_with_8 = plainly_some 8 _ _ tt tt tt refl refl tt tt

-- ── A source with no prefix sign ──────────────────────────────────────────────────────────────────

-- Settings with the same switches choose alike.
chosen_alike : (s s' : ℕ) → ((g : Switch) → has s g ≡ has s' g) → (t : Table) → choose s t ≡ choose s' t
unfolding choose
chosen_alike s s' on (otherwise b) = refl
chosen_alike s s' on (row g t b ∣ rest) =
    let f : Bool → Body → Body = λ h c. elim (t && h) [ true ↦ b | false ↦ c ] in
    ap (λ (h : Bool). f h (choose s rest)) (on g) ∙ ap (f (has s' g)) (chosen_alike s s' on rest)

not_sign : (k : ℕ) (xs : List Sign) → Signs xs → ((o : ℕ) → Unary k o → ⊥) → sign_in k xs ≡ None
unfolding Signs sign_in
not_sign k [] h n = refl
not_sign k (sign j o ∷ rest) h n = by (eqb k j) refl (not_sign k rest h.2 n)
  where
    by : (t : Bool) → eqb k j ≡ t → sign_in k rest ≡ None → cond t (Some o) (sign_in k rest) ≡ None
    by true e i = absurd (n o (subst (λ (m : ℕ). Unary m o) (sym (eqb-true k j e)) h.0))
    by false e i = i

module _ (p p' s s' : ℕ) (on : (g : Switch) → has s g ≡ has s' g) where
  expr_alike : (m k : ℕ) (xs : List Lexeme) (n : ℕ) → ¬ Signed (expr m) xs → production p s (expr m) k xs n ≡ production p' s' (expr m) k xs n
  unfolding production view prefix_of sign-body
  expr_alike m k xs n plain =
      let e = not_sign (kind_of xs) signs signs_sound (λ o u. plain (signed u)) in
      prefix_chosen p s m (view k xs n) ∙ ap (sign-body p m (kind_of xs)) e ∙ sym (prefix_chosen p' s' m (view k xs n) ∙ ap (sign-body p' m (kind_of xs)) e)

  phrase_alike : (q : Phrase) (k : ℕ) (xs : List Lexeme) (n : ℕ) → ¬ Signed q xs → production p s q k xs n ≡ production p' s' q k xs n
  unfolding production
  phrase_alike q k xs n plain = by (facts p q (view k xs n))
    where
      same : rule p q (view k xs n) ≡ rule p' q (view k xs n) → choose s (rule p q (view k xs n)) ≡ choose s' (rule p' q (view k xs n))
      same e = ap (choose s) e ∙ chosen_alike s s' on (rule p' q (view k xs n))

      by : Facts p q (view k xs n) → choose s (rule p q (view k xs n)) ≡ choose s' (rule p' q (view k xs n))
      by (alone h f) = same (f p')
      by (switched w h f) = same (f p')
      by (an_expr {m} e h) =
          subst⁻¹ (λ (r : Phrase). production p s r k xs n ≡ production p' s' r k xs n) e (expr_alike m k xs n (subst (λ (r : Phrase). ¬ Signed r xs) e plain))

  moved : {b b' : Body} {ts : Trees} {d k : ℕ} {xs : List Lexeme} {o : Outcome} → b ≡ b' → Reading p' s' b ts d k xs o → Reading p' s' b' ts d k xs o
  moved {ts = ts} {d} {k} {xs} {o} e r = subst (λ (b : Body). Reading p' s' b ts d k xs o) e r

  -- A READING IN WHICH NO PHRASE BEGINS WITH A SIGN has the same outcome under every prefix power and every setting with the same switches.
  pub unsigned_alike : {b : Body} {ts : Trees} {d k : ℕ} {xs : List Lexeme} {o : Outcome} (x : Reading p s b ts d k xs o) → Unsigned x → Reading p' s' b ts d k xs o
  unfolding Unsigned count
  unsigned_alike ended u = ended
  unsigned_alike failed u = failed
  unsigned_alike (gone {q} {ts} {d} {p = k} {xs} r) u = gone (moved (phrase_alike q k xs (count ts) u.0) (unsigned_alike r u.1))
  unsigned_alike (eaten e r) u = eaten e (unsigned_alike r u)
  unsigned_alike (uneaten n) u = uneaten n
  unsigned_alike (leafed r) u = leafed (unsigned_alike r u)
  unsigned_alike (closed r) u = closed (unsigned_alike r u)
  unsigned_alike (subbed {q} {p = k} {xs = xs} r r') u = subbed (moved (phrase_alike q k xs 0 u.0) (unsigned_alike r u.1)) (unsigned_alike r' u.2)
  unsigned_alike (unsubbed {q} {p = k} {xs = xs} r) u = unsubbed (moved (phrase_alike q k xs 0 u.0) (unsigned_alike r u.1))
  unsigned_alike (deepened {q} {p = k} {xs = xs} r r') u = deepened (moved (phrase_alike q k xs 0 u.0) (unsigned_alike r u.1)) (unsigned_alike r' u.2)
  unsigned_alike (undeepened {q} {p = k} {xs = xs} r) u = undeepened (moved (phrase_alike q k xs 0 u.0) (unsigned_alike r u.1))
  unsigned_alike too_deep u = too_deep

module _ (s s' : ℕ) (on : (g : Switch) → has s g ≡ has s' g) (h : valid_setting s ≡ true) (h' : valid_setting s' ≡ true) {source : List ℕ} where
  judged_alike : {v : Verdict} (x : Judged Bad Kept document_01 s source v) → NoPrefixSign x → Judged Bad Kept document_01 s' source v
  unfolding NoPrefixSign
  judged_alike (bad_setting a) u = absurd (true_false (sym h ∙ a))
  judged_alike (too_long a b) u = too_long h' b
  judged_alike (not_utf8 a b c d) u = not_utf8 h' b c d
  judged_alike (bad_lexeme a b c d) u = bad_lexeme h' b c d
  judged_alike (read a b c d r) u = read h' b c d (unsigned_alike (prefix_power s) (prefix_power s') s s' on r u)

  pub alike_by_switches : {room : ℕ} {a a' : Answer} {out out' : List ℕ} (x : Reads01 s source room a out) → NoPrefixSign x.judged → Reads01 s' source room a' out' → (a' ≡ a) × (out' ≡ out)
  alike_by_switches x u x' = reads_once x' (record { found = x.found; judged = judged_alike x.judged u; answered = x.answered; written = x.written })

-- 8 is none of the three switches.
pub with_8 : (s : ℕ) (g : Switch) → has s g ≡ has (s + 8) g
unfolding has
with_8 s always = refl
with_8 s exp_destruct = let e : s % 2 ≡ (s + 8) % 2 = omega arith in ap (λ (n : ℕ). eqb n 1) e
with_8 s exp_object_iteration = let e : s / 2 % 2 ≡ (s + 8) / 2 % 2 = omega arith in ap (λ (n : ℕ). eqb n 1) e
with_8 s exp_null_coaelse = let e : s / 4 % 2 ≡ (s + 8) / 4 % 2 = omega arith in ap (λ (n : ℕ). eqb n 1) e

-- A SOURCE WITH NO PREFIX SIGN READS ALIKE UNDER s AND s + 8: number, place, detail, length and output. It has none in its reading under s, or in that
-- under s + 8.
module _ (s : ℕ) (small : s ≤ 7) {source : List ℕ} {room : ℕ} {a a' : Answer} {out out' : List ℕ} (x : Reads01 s source room a out) (x' : Reads01 (s + 8) source room a' out') where
  pub no_sign_without_8 : NoPrefixSign x.judged → (a' ≡ a) × (out' ≡ out)
  no_sign_without_8 u = alike_by_switches s (s + 8) (with_8 s) (le-leb s 15 (omega arith)) (le-leb (s + 8) 15 (omega arith)) x u x'

  pub no_sign_with_8 : NoPrefixSign x'.judged → (a ≡ a') × (out ≡ out')
  no_sign_with_8 u = alike_by_switches (s + 8) s (λ g. sym (with_8 s g)) (le-leb (s + 8) 15 (omega arith)) (le-leb s 15 (omega arith)) x' u x
