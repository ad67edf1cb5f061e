-- The productions of Jsonnet that a JSON text goes by, under setting 0: what is read of the lexemes of a value, an array, an object. Each is the
-- production that 01's tables have for the lexeme that stands there, computed.
-- Assumes nothing.
use mathlib.Core.Path.{refl}
use mathlib.Core.List.{List, [], ◌∷◌}
use Prim.Native.Nat.{ℕ, suc}
use Rattle.lexemes.specs.Kinds.{FLOAT, STRING_DOUBLE, NULL_KW, TRUE_KW, FALSE_KW, L_BRACK, R_BRACK, L_BRACE, R_BRACE, COLON, COMMA, MINUS}
use Rattle.grammar.specs.Tags.{NULL, BOOL, NUMBER, STRING, ARRAY, MEMBERS, PREFIX, FIELD}
use Rattle.grammar.specs.Numbers.{ESCAPE}
use Rattle.grammar.specs.Trees.{byte, number, span, text, Trees, none, tree, ◌⊕◌, count}
use Rattle.grammar.specs.Lexemes.{Said, says, good, said, spoiled_at, Lexeme}
use Rattle.grammar.specs.Productions.{Phrase, Body, end, goto, ◌▸◌, eat, sub, deep, close, rule, signs, operators, sign_rows, operator_rows, with_member, with_field}
use Rattle.grammar.specs.Productions as phrase
use Rattle.grammar.specs.Reading.{has, choose, view, production, Outcome, done, broken, Reading, ended, failed, gone, eaten, leafed, closed, subbed, unsubbed, deepened, undeepened}
use Rattle.both.specs.Solidus.{outside, Solidus, SolidusAt}
use Rattle.both.proofs.Lexed.{lx, Tells}

abbrev pub Lexemes : Type 0
Lexemes = List Lexeme

-- A reading under setting 0, where prefix signs have power 20.
abbrev pub Rd : Body → Trees → ℕ → ℕ → Lexemes → Outcome → Type 0
Rd = Reading 20 0

-- ── Behind a value ────────────────────────────────────────────────────────────────────────────────

-- What may stand behind a value: no lexeme, a comma, or a bracket that closes.
pub data Shut : Lexemes → Type 0 where
  nothing : Shut []
  comma : {a e : ℕ} {v : Said} {xs : Lexemes} → Shut (lx COMMA a e v ∷ xs)
  brack : {a e : ℕ} {v : Said} {xs : Lexemes} → Shut (lx R_BRACK a e v ∷ xs)
  brace : {a e : ℕ} {v : Said} {xs : Lexemes} → Shut (lx R_BRACE a e v ∷ xs)

-- There no suffix goes on, and no operator.
suffix_over : {ts : Trees} {d p : ℕ} {ys : Lexemes} → Shut ys → Rd (goto (phrase.suffix 1)) ts d p ys (done ts p ys)
unfolding production choose rule view has
suffix_over nothing = gone ended
suffix_over comma = gone ended
suffix_over brack = gone ended
suffix_over brace = gone ended

infix_over : {m : ℕ} {ts : Trees} {d p : ℕ} {ys : Lexemes} → Shut ys → Rd (goto (phrase.infix_tail m)) ts d p ys (done ts p ys)
unfolding production choose rule view has signs operators sign_rows operator_rows
infix_over nothing = gone ended
infix_over comma = gone ended
infix_over brack = gone ended
infix_over brace = gone ended

-- ── A value begins ────────────────────────────────────────────────────────────────────────────────

pub data Basic : ℕ → Type 0 where
  string : Basic STRING_DOUBLE
  float : Basic FLOAT
  null : Basic NULL_KW
  true : Basic TRUE_KW
  false : Basic FALSE_KW
  brack : Basic L_BRACK
  brace : Basic L_BRACE

pub data Starts : Lexemes → Type 0 where
  basic : {k a e : ℕ} {v : Said} {xs : Lexemes} → Basic k → Starts (lx k a e v ∷ xs)
  minus : {a e : ℕ} {v : Said} {xs : Lexemes} → Starts (lx MINUS a e v ∷ xs)

-- Nothing but a basic expression begins with these; `-` is the only sign.
expr_starts : {m d p k a e : ℕ} {v : Said} {xs : Lexemes} {o : Outcome} → Basic k → Rd (sub phrase.suffixed ▸ goto (phrase.infix_tail m)) none d p (lx k a e v ∷ xs) o
    → Rd (goto (phrase.expr m)) none d p (lx k a e v ∷ xs) o
unfolding production choose rule view has signs operators sign_rows operator_rows count
expr_starts string x = gone x
expr_starts float x = gone x
expr_starts null x = gone x
expr_starts true x = gone x
expr_starts false x = gone x
expr_starts brack x = gone x
expr_starts brace x = gone x

-- Behind `[`, and behind a comma of an array, a value is no `]`; behind the first comma no `for`.
array_starts : {d p : ℕ} {xs : Lexemes} {o : Outcome} → Starts xs → Rd (deep (phrase.expr 0) ▸ goto phrase.array_first) none d p xs o → Rd (goto phrase.array) none d p xs o
unfolding production choose rule view has
array_starts (basic string) x = gone x
array_starts (basic float) x = gone x
array_starts (basic null) x = gone x
array_starts (basic true) x = gone x
array_starts (basic false) x = gone x
array_starts (basic brack) x = gone x
array_starts (basic brace) x = gone x
array_starts minus x = gone x

next_starts : {ts : Trees} {d p : ℕ} {xs : Lexemes} {o : Outcome} → Starts xs → Rd (deep (phrase.expr 0) ▸ goto phrase.elements) ts d p xs o → Rd (goto phrase.next_element) ts d p xs o
unfolding production choose rule view has
next_starts (basic string) x = gone x
next_starts (basic float) x = gone x
next_starts (basic null) x = gone x
next_starts (basic true) x = gone x
next_starts (basic false) x = gone x
next_starts (basic brack) x = gone x
next_starts (basic brace) x = gone x
next_starts minus x = gone x

first_goes : {ts : Trees} {d p a e : ℕ} {v : Said} {xs : Lexemes} {o : Outcome} → Starts xs → Rd (goto phrase.elements) ts d p (lx COMMA a e v ∷ xs) o
    → Rd (goto phrase.array_first) ts d p (lx COMMA a e v ∷ xs) o
unfolding production choose rule view has
first_goes (basic string) x = gone x
first_goes (basic float) x = gone x
first_goes (basic null) x = gone x
first_goes (basic true) x = gone x
first_goes (basic false) x = gone x
first_goes (basic brack) x = gone x
first_goes (basic brace) x = gone x
first_goes minus x = gone x

-- Behind the first `:` of a field a value is no `:`.
colon_starts : {w : List ℕ} {d p a e i j : ℕ} {v : Said} {xs : Lexemes} {o : Outcome} → Starts xs
    → Rd (eat COLON ▸ deep (phrase.expr 0) ▸ close FIELD (span i j ∷ byte 0 ∷ byte 0 ∷ byte 0 ∷ number 0 ∷ byte 0 ∷ []) ▸ end) (tree STRING (text w ∷ []) none) d p (lx COLON a e v ∷ xs) o
    → Rd (goto (phrase.field_value i j 0 0 0)) (tree STRING (text w ∷ []) none) d p (lx COLON a e v ∷ xs) o
unfolding production choose rule view has count
colon_starts (basic string) x = gone x
colon_starts (basic float) x = gone x
colon_starts (basic null) x = gone x
colon_starts (basic true) x = gone x
colon_starts (basic false) x = gone x
colon_starts (basic brack) x = gone x
colon_starts (basic brace) x = gone x
colon_starts minus x = gone x

-- ── What becomes of a part ────────────────────────────────────────────────────────────────────────

-- The part of the text s whose first byte is u's and behind which w stands: it is read as these trees up to ys, and has no `\/`; or the reading breaks off with
-- number 9, at a `\/`, and there is one from u on.
pub data Met (s : List ℕ) (b : Body) (ts : Trees) (d p : ℕ) (xs : Lexemes) (us : Trees) (r : ℕ) (ys : Lexemes) (u w : List ℕ) : Type 0 where
  same : Rd b ts d p xs (done us r ys) → (Solidus outside u → Solidus outside w) → (Solidus outside w → Solidus outside u) → Met s b ts d p xs us r ys u w
  nine : {j x : ℕ} {zs : Lexemes} → Rd b ts d p xs (broken ESCAPE j zs x) → SolidusAt s x → Solidus outside u → Met s b ts d p xs us r ys u w

module _ {s : List ℕ} {b : Body} {ts : Trees} {d p : ℕ} {xs : Lexemes} {us : Trees} {r : ℕ} {ys : Lexemes} where
  -- Other bytes before it.
  pub met_from : {u u' w : List ℕ} → (Solidus outside u' → Solidus outside u) → (Solidus outside u → Solidus outside u') → Met s b ts d p xs us r ys u w → Met s b ts d p xs us r ys u' w
  met_from f g (same x h k) = same x (λ z. h (f z)) (λ z. g (k z))
  met_from f g (nine x l y) = nine x l (g y)

  -- Another body that reads the same.
  pub met_by : {b' : Body} {ts' : Trees} {d' p' : ℕ} {xs' : Lexemes} {u w : List ℕ} → ((o : Outcome) → Rd b ts d p xs o → Rd b' ts' d' p' xs' o)
      → Met s b ts d p xs us r ys u w → Met s b' ts' d' p' xs' us r ys u w
  met_by f (same x h k) = same (f _ x) h k
  met_by f (nine x l y) = nine (f _ x) l y

-- An expression, and what the phrase goes on with.
pub deep_then : {s : List ℕ} {b : Body} {ts us ws : Trees} {d p r j : ℕ} {xs ys zs : Lexemes} {u w z : List ℕ} → Met s (goto (phrase.expr 0)) none d p xs us r ys u w
    → Met s b (ts ⊕ us) (suc d) r ys ws j zs w z → Met s (deep (phrase.expr 0) ▸ b) ts (suc d) p xs ws j zs u z
unfolding count
deep_then (same (gone x) f g) (same y h k) = same (deepened x y) (λ q. h (f q)) (λ q. g (k q))
deep_then (same (gone x) f g) (nine y l q) = nine (deepened x y) l (g q)
deep_then (nine (gone x) l q) m = nine (undeepened x) l q

-- A phrase, and what goes on.
pub sub_then : {s : List ℕ} {q : Phrase} {b : Body} {ts us ws : Trees} {d p r j : ℕ} {xs ys zs : Lexemes} {u w z : List ℕ} → Met s (goto q) none d p xs us r ys u w
    → Met s b (ts ⊕ us) d r ys ws j zs w z → Met s (sub q ▸ b) ts d p xs ws j zs u z
unfolding count
sub_then (same (gone x) f g) (same y h k) = same (subbed x y) (λ q. h (f q)) (λ q. g (k q))
sub_then (same (gone x) f g) (nine y l q) = nine (subbed x y) l (g q)
sub_then (nine (gone x) l q) m = nine (unsubbed x) l q

-- ── Values ────────────────────────────────────────────────────────────────────────────────────────

-- A basic expression is the whole expression.
pub as_expr : {s : List ℕ} {m d p r k a e : ℕ} {v : Said} {xs ys : Lexemes} {t : Trees} {u w : List ℕ} → Basic k → Shut ys
    → Met s (goto phrase.basic) none d p (lx k a e v ∷ xs) t r ys u w → Met s (goto (phrase.expr m)) none d p (lx k a e v ∷ xs) t r ys u w
unfolding production choose rule view has ◌⊕◌ count
as_expr b over (same (gone x) f g) = same (expr_starts b (subbed (subbed x (suffix_over over)) (infix_over over))) f g
as_expr b over (nine (gone x) l q) = nine (expr_starts b (unsubbed (unsubbed x))) l q

module _ {d p a e : ℕ} {ys : Lexemes} where
  pub null_read : {v : Said} → Rd (goto phrase.basic) none d p (lx NULL_KW a e v ∷ ys) (done (tree NULL [] none) e ys)
  unfolding production choose rule view has ◌⊕◌ count
  null_read = gone (leafed ended)

  pub true_read : {v : Said} → Rd (goto phrase.basic) none d p (lx TRUE_KW a e v ∷ ys) (done (tree BOOL (byte 1 ∷ []) none) e ys)
  unfolding production choose rule view has ◌⊕◌ count
  true_read = gone (leafed ended)

  pub false_read : {v : Said} → Rd (goto phrase.basic) none d p (lx FALSE_KW a e v ∷ ys) (done (tree BOOL (byte 0 ∷ []) none) e ys)
  unfolding production choose rule view has ◌⊕◌ count
  false_read = gone (leafed ended)

  pub number_read : {w : List ℕ} → Rd (goto phrase.basic) none d p (lx FLOAT a e (says w) ∷ ys) (done (tree NUMBER (text w ∷ []) none) e ys)
  unfolding production choose rule view has ◌⊕◌ good said count
  number_read = gone (leafed ended)

  pub string_read : {s w u q : List ℕ} {v : Said} → Tells s a w u q v
      → Met s (goto phrase.basic) none d p (lx STRING_DOUBLE a e v ∷ ys) (tree STRING (text w ∷ []) none) e ys u q
  unfolding production choose rule view has ◌⊕◌ good said spoiled_at count
  string_read (Tells.text f g) = same (gone (gone (leafed ended))) f g
  string_read (Tells.slash l x) = nine (gone (gone failed)) l x

-- A sign before a number.
pub minus_read : {s : List ℕ} {m d p r a e : ℕ} {v : Said} {xs ys : Lexemes} {t : Trees} {u w : List ℕ} → Shut ys → Met s (goto (phrase.expr 20)) none d e xs t r ys u w
    → Met s (goto (phrase.expr m)) none (suc d) p (lx MINUS a e v ∷ xs) (tree PREFIX (byte 1 ∷ []) t) r ys u w
unfolding production choose rule view has signs operators sign_rows operator_rows ◌⊕◌ count
minus_read over (same (gone x) f g) = same (gone (eaten refl (deepened x (closed (infix_over over))))) f g
minus_read over (nine (gone x) l q) = nine (gone (eaten refl (undeepened x))) l q

-- ── Arrays ────────────────────────────────────────────────────────────────────────────────────────

pub no_elements : {d p a e a' e' : ℕ} {v v' : Said} {ys : Lexemes}
    → Rd (goto phrase.basic) none d p (lx L_BRACK a e v ∷ lx R_BRACK a' e' v' ∷ ys) (done (tree ARRAY (number 0 ∷ []) none) e' ys)
unfolding production choose rule view has ◌⊕◌ count
no_elements = gone (eaten refl (gone (eaten refl (closed ended))))

-- How an array goes on behind an element: behind the first it may be a comprehension.
pub data Tail : Phrase → Type 0 where
  first : Tail phrase.array_first
  later : Tail phrase.elements

pub an_array : {s : List ℕ} {d p r a e : ℕ} {v : Said} {xs ys : Lexemes} {t : Trees} {u w : List ℕ} → Starts xs → Met s (deep (phrase.expr 0) ▸ goto phrase.array_first) none d e xs t r ys u w
    → Met s (goto phrase.basic) none d p (lx L_BRACK a e v ∷ xs) t r ys u w
unfolding production choose rule view has count
an_array v m = met_by (λ o x. gone (eaten refl (array_starts v x))) m

pub array_over : {q : Phrase} {ts : Trees} {d p a e : ℕ} {v : Said} {ys : Lexemes} → Tail q
    → Rd (goto q) ts d p (lx R_BRACK a e v ∷ ys) (done (tree ARRAY (number (count ts) ∷ []) ts) e ys)
unfolding production choose rule view has
array_over first = gone (gone (eaten refl (closed ended)))
array_over later = gone (eaten refl (closed ended))

pub array_on : {q : Phrase} {ts : Trees} {d p a e : ℕ} {v : Said} {xs : Lexemes} {o : Outcome} → Tail q → Starts xs → Rd (deep (phrase.expr 0) ▸ goto phrase.elements) ts d e xs o
    → Rd (goto q) ts d p (lx COMMA a e v ∷ xs) o
unfolding production choose rule view has
array_on first s x = first_goes s (gone (eaten refl (next_starts s x)))
array_on later s x = gone (eaten refl (next_starts s x))

-- ── Objects ───────────────────────────────────────────────────────────────────────────────────────

pub no_members : {d p a e a' e' : ℕ} {v v' : Said} {ys : Lexemes}
    → Rd (goto phrase.basic) none d p (lx L_BRACE a e v ∷ lx R_BRACE a' e' v' ∷ ys) (done (tree MEMBERS (number 0 ∷ []) none) e' ys)
unfolding production choose rule view has ◌⊕◌ count
no_members = gone (eaten refl (subbed (closed ended) (eaten refl ended)))

-- Lexemes that begin with a string.
pub data Named : Lexemes → Type 0 where
  named : {a e : ℕ} {v : Said} {xs : Lexemes} → Named (lx STRING_DOUBLE a e v ∷ xs)

pub an_object : {s : List ℕ} {d p j a e a' e' : ℕ} {v v' : Said} {xs ys : Lexemes} {t : Trees} {u w : List ℕ} → Named xs
    → Met s (sub phrase.member ▸ goto (phrase.members 0)) none d e xs t j (lx R_BRACE a' e' v' ∷ ys) u w
    → Met s (goto phrase.basic) none d p (lx L_BRACE a e v ∷ xs) t e' ys u w
unfolding production choose rule view has ◌⊕◌ count with_member with_field
an_object named (same x g h) = same (gone (eaten refl (subbed x (eaten refl ended)))) g h
an_object named (nine x l q) = nine (gone (eaten refl (unsubbed x))) l q

pub members_over : {c : ℕ} {ts : Trees} {d p a e : ℕ} {v : Said} {ys : Lexemes}
    → Rd (goto (phrase.members c)) ts d p (lx R_BRACE a e v ∷ ys) (done (tree MEMBERS (number (count ts) ∷ []) ts) p (lx R_BRACE a e v ∷ ys))
unfolding production choose rule view has
members_over = gone (closed ended)

pub members_on : {c : ℕ} {ts : Trees} {d p a e : ℕ} {v : Said} {xs : Lexemes} {o : Outcome} → Named xs → Rd (sub phrase.member ▸ goto (phrase.members (with_field c))) ts d e xs o
    → Rd (goto (phrase.members c)) ts d p (lx COMMA a e v ∷ xs) o
unfolding production choose rule view has with_member
members_on named x = gone (eaten refl (gone x))

-- A field: its name, which may be spoiled, and its value.
pub member_read : {s : List ℕ} {d p r a e a' e' : ℕ} {v v' : Said} {xs ys : Lexemes} {t : Trees} {w u q z : List ℕ} → Tells s a w u q v → Starts xs
    → Met s (goto (phrase.expr 0)) none d e' xs t r ys q z
    → Met s (goto phrase.member) none (suc d) p (lx STRING_DOUBLE a e v ∷ lx COLON a' e' v' ∷ xs)
    (tree FIELD (span a e ∷ byte 0 ∷ byte 0 ∷ byte 0 ∷ number 0 ∷ byte 0 ∷ []) (tree STRING (text w ∷ []) none ⊕ t)) r ys u z
unfolding production choose rule view has ◌⊕◌ count good said spoiled_at
member_read (Tells.slash l x) v m = nine (gone (unsubbed (unsubbed failed))) l x
member_read (Tells.text f g) v (same (gone x) h k) =
    same (gone (subbed (subbed (leafed ended) (gone (colon_starts v (eaten refl (deepened x (closed ended)))))) ended)) (λ y. h (f y)) (λ y. g (k y))
member_read (Tells.text f g) v (nine (gone x) l q) = nine (gone (unsubbed (subbed (leafed ended) (gone (colon_starts v (eaten refl (undeepened x))))))) l (g q)
