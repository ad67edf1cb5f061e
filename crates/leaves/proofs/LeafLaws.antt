-- Laws that the phrases without other phrases rest on.
-- Assumes nothing.
use Rattle.std.specs.Prelude.{Ok, Err}
use mathlib.Core.Path.{◌≡◌, refl, sym, ap, subst, subst⁻¹, ◌∙◌}
use mathlib.Core.Bool.{Bool, true, false}
use mathlib.Core.Logic.{inl, inr}
use types.Run.{OneOf}
use mathlib.Core.List.{List, [], ◌∷◌}
use Prim.Native.Nat.{ℕ, ◌+◌, ◌-◌, ◌≤◌, ◌<◌, ◌^◌}
use native.Mathlib.Omega.{arith}
use lib.ListN.{length, take, drop}
use lib.Seq.{slice, length-slice}
use Rattle.numerals.specs.Value.{TooLarge}
use Rattle.lexemes.specs.Kinds.{COMMA, FLOAT}
use Rattle.lexemes.specs.Texts.{plain}
use Rattle.grammar.specs.Trees.{Field, span, text}
use Rattle.grammar.specs.Image.{entry, payload}
use Rattle.grammar.specs.Lexemes.{Lexeme, Said, says}
use Rattle.grammar.specs.Says.{Spoils}
use Rattle.grammar.specs.Numbers.{ESCAPE, LARGE}
use Rattle.grammar.specs.Reading.{choose}
use Rattle.grammar.specs.Writing.{Wrote}
use Rattle.grammar.specs.Productions.{Phrase, Body, end, goto, fail, ◌▸◌, eat, leaf, rule, basic, string, object_rest_end, object_pattern_close}
use Rattle.leaves.specs.Lexing.{Stands, Moved, Past, past, same, Quoting, double, single, double_verbatim, single_verbatim, block, Quotes, quotes, none as no-quotes}
use Rattle.leaves.specs.Meets.{Ready, State, state, Seg, Eats, Leads, power, Answer, reached}
use Rattle.leaves.proofs.LexemeLaws.{lies, sight}
use Rattle.leaves.proofs.Steps
use Rattle.leaves.proofs.PartLaws.{lent_short, wrote_lent}
use Rattle.leaves.proofs.LeafRules.{rest_comma, rest_over, bad_string, large_number}
use Rattle.leaves.proofs.TextLaws.{spoiling, exceeding}
use Rattle.leaves.specs.declared.Cursor.{Cursor}
use Rattle.leaves.specs.declared.Refusal.{Refusal}
use Rattle.leaves.specs.declared.Done.{Done}

-- ── Answers ───────────────────────────────────────────────────────────────────────────────────────

pub done_once : {c c₁ : Cursor} {w w₁ k k₁ : ℕ} → reached c w k ≡ reached c₁ w₁ k₁ → (c ≡ c₁) × (w ≡ w₁) × (k ≡ k₁)
done_once e = let x = Steps.one_end e in (ap (λ (y : Done). y.0) x, ap (λ (y : Done). y.1) x, ap (λ (y : Done). y.2) x)

-- no answer is both
pub not_both : {a : Answer} {r : Refusal} {c : Cursor} {w k : ℕ} → a ≡ Err r → a ≡ reached c w k → ⊥
not_both e f = let z : ◌≡◌ {A = ℕ} 0 1 = cc in omega arith

-- past a lexeme
pub moves : {s : List ℕ} {c c₁ c₂ : Cursor} {w w₁ k k₁ : ℕ} → Stands s c → Moved s c c₁ → ¬ (c.kind ≡ 1) → reached c₁ w k ≡ reached c₂ w₁ k₁
    → (c.at < c₂.at) × (w₁ ≡ w) × (c₂.at ≡ c.end)
moves st mv h q =
    let x = done_once q in
    let a = ap (λ (y : Cursor). y.at) (sym x.0) ∙ mv.at in
    (omega (arith, a, (lies st).from, (lies st).some h), sym x.1, a)

-- ── Strings ───────────────────────────────────────────────────────────────────────────────────────

pub string_kind : {k : ℕ} → OneOf (41 ∷ 43 ∷ 45 ∷ 47 ∷ 50 ∷ []) k → Quoting k
string_kind (inl e) = subst⁻¹ Quoting e double
string_kind (inr (inl e)) = subst⁻¹ Quoting e single
string_kind (inr (inr (inl e))) = subst⁻¹ Quoting e double_verbatim
string_kind (inr (inr (inr (inl e)))) = subst⁻¹ Quoting e single_verbatim
string_kind (inr (inr (inr (inr e)))) = subst⁻¹ Quoting e block

which : {k : ℕ} → Quoting k → OneOf (41 ∷ 43 ∷ 45 ∷ 47 ∷ 50 ∷ []) k
which double = inl refl
which single = inr (inl refl)
which double_verbatim = inr (inr (inl refl))
which single_verbatim = inr (inr (inr (inl refl)))
which block = inr (inr (inr (inr refl)))

pub no_string : {k : ℕ} → ¬ (OneOf (41 ∷ 43 ∷ 45 ∷ 47 ∷ 50 ∷ []) k) → Quotes k false
no_string n = no-quotes (λ q. n (which q))

-- ── Room ──────────────────────────────────────────────────────────────────────────────────────────

-- where a phrase may start the image is short, and so are places
pub fits : {s : List ℕ} {c : Cursor} {w : ℕ} → Ready s c w → w < 2 ^ 40
fits r = omega (arith, r.room, r.stands.short, r.stands.within)

pub within : {s : List ℕ} {c : Cursor} {w : ℕ} → Ready s c w → (c.start < 65536) × (c.end < 65536)
within r = let l = lies r.stands in (omega (arith, l.on, l.within, r.stands.short), omega (arith, l.within, r.stands.short))

pub few : {s : List ℕ} {c : Cursor} {w n : ℕ} → Ready s c w → n ≤ c.at → n < 65536
few r h = omega (arith, h, r.stands.short, r.stands.within)

-- a lexeme's bytes
pub bytes_short : {s : List ℕ} {c : Cursor} {w : ℕ} → Ready s c w → length (take (c.end - c.start) (drop c.start s)) < 65000 + 1
bytes_short {s} {c} r = lent_short s c.start c.end r.stands.short (lies r.stands).within

-- further on
pub onward : {s : List ℕ} {c c₁ : Cursor} {w : ℕ} → Ready s c w → Stands s c₁ → c.at ≤ c₁.at → Ready s c₁ w
onward r h i = record { stands = h; room = omega (arith, r.room, i) }

pub moved_on : {s : List ℕ} {c c₁ : Cursor} → Stands s c → Moved s c c₁ → c.at ≤ c₁.at
moved_on st mv = let l = lies st in omega (arith, l.from, l.on, mv.at)

-- ── Sizes of records ──────────────────────────────────────────────────────────────────────────────

pub text_size : (t : ℕ) {s : List ℕ} {c : Cursor} → Stands s c → length (entry t (text (slice c.start c.end s) ∷ [])) ≤ 7 + (c.end - c.at)
unfolding entry payload
text_size t {s} {c} st = let l = lies st in omega (arith, length-slice c.start c.end s l.within, l.from)

pub name_size : (t : ℕ) {s : List ℕ} {c : Cursor} → Stands s c → length (entry t (span c.start c.end ∷ text (slice c.start c.end s) ∷ [])) ≤ 7 + (c.end - c.at)
unfolding entry payload
name_size t {s} {c} st = let l = lies st in omega (arith, length-slice c.start c.end s l.within, l.from)

-- a record of at most 8 bytes is paid for by any lexeme
pub small : {s : List ℕ} {c : Cursor} {n : ℕ} → Stands s c → 1 < c.kind → n ≤ 8 → n ≤ 7 + (c.end - c.at)
small st k h = let l = lies st in let y = l.some (λ z. omega (arith, k, z)) in omega (arith, h, y, l.from)

-- ── Past a comma ──────────────────────────────────────────────────────────────────────────────────

pub past_stands : {s : List ℕ} {c c₁ : Cursor} → Stands s c → Past s c c₁ → Stands s c₁ × (c.at ≤ c₁.at)
past_stands st (past k mv) = (mv.stands, moved_on st mv)
past_stands {s} {c} st (same h e) = (subst⁻¹ (Stands s) e st, omega (arith, ap (λ (x : Cursor). x.at) e))

-- where one stands
pub moved_past : {s : List ℕ} {c c₁ : Cursor} → Past s c c₁ → c.kind ≡ COMMA → Moved s c c₁
moved_past (past k mv) h = mv
moved_past (same k e) h = absurd (k h)

pub past_comma : {g : ℕ} {s : List ℕ} {d : ℕ} {from : State} {r n e v w : ℕ} {x : List ℕ} {c c₁ : Cursor} {o : List ℕ} → Stands s c → Past s c c₁
    → Seg g s d from e v (state (goto (object_rest_end r x)) n c w o) → Seg g s d from e v (state (goto (object_pattern_close r x)) n c₁ w o)
past_comma {g} {s} {d} {from} {r} {n} {e} {v} {w} {x} {c} {c₁} {o} st (past k mv) p =
    let b = Steps.known (eat 33 ▸ goto (object_pattern_close r x)) st k (λ xs t. rest_comma g c xs n r x t) p in
    let q : e + 0 ≡ e = omega arith in
    subst (λ (m : ℕ). Seg g s d from m v (state (goto (object_pattern_close r x)) n c₁ w o)) q (Steps.taken_of 0 (omega arith) st mv k b)
past_comma {g} {s} {d} {from} {r} {n} {e} {v} {w} {x} {c} {c₁} {o} st (same h q) p =
    subst⁻¹ (λ (y : Cursor). Seg g s d from e v (state (goto (object_pattern_close r x)) n y w o)) q
    (Steps.known (goto (object_pattern_close r x)) st refl (λ xs t. rest_over g c xs n r x c.kind t h) p)

-- ── Past a lexeme that `eat` took ─────────────────────────────────────────────────────────────────

pub ate_stands : {s : List ℕ} {c : Cursor} {w k : ℕ} {a : Answer} {x : Done} → Stands s c → Eats s k c w a → a ≡ Ok x → Stands s x.0
ate_stands {s} {c} {w} {k} st m q = (Steps.ate m q (Steps.at 0 s 0 (eat k ▸ end) 0 c w [])).stands st

-- ── What `is_string_token` tells ──────────────────────────────────────────────────────────────────

pub is_quoted : {k : ℕ} {b : Bool} → Quotes k b → b ≡ true → Quoting k
is_quoted (quotes q) e = q
is_quoted (no-quotes f) e = absurd (let z : ◌≡◌ {A = ℕ} 0 1 = cc in omega arith)

pub not_quoted : {k : ℕ} {b : Bool} → Quotes k b → b ≡ false → Quoting k → ⊥
not_quoted (quotes q) e = absurd (let z : ◌≡◌ {A = ℕ} 0 1 = cc in omega arith)
not_quoted (no-quotes f) e = f

-- ── Texts ─────────────────────────────────────────────────────────────────────────────────────────

pub any_size : (k : ℕ) {s : List ℕ} {c : Cursor} → Stands s c → (t : List ℕ) → length t ≤ c.end - c.start → length (entry k (text t ∷ [])) ≤ 7 + (c.end - c.at)
unfolding entry payload
any_size k st t h = omega (arith, h, (lies st).from)

-- a literal with a bad escape
pub bad-answer : {g : ℕ} {s : List ℕ} {d n w u m x : ℕ} {b : Body} {c : Cursor} {o o₁ : List ℕ} {a : Answer} → Stands s c → Spoils s c.kind c.start c.end x
    → a ≡ Err (record { number = ESCAPE; place = c; detail = c.start + 1 + x }) → Leads g s d (state (goto string) n c w o) u b m a o₁
bad-answer {g} {n = n} {x = x} {c = c} st f e =
    Steps.broke (Steps.fails st (spoiling (fail 9 (c.start + 1 + x)) st f (λ xs. bad_string g c xs n c.kind x) Steps.here)) e

-- a number beyond a double
pub large_answer : {g : ℕ} {s : List ℕ} {d n w u m : ℕ} {b : Body} {c : Cursor} {o o₁ : List ℕ} {a : Answer} → Stands s c → c.kind ≡ FLOAT
    → TooLarge (plain (slice c.start c.end s)) → a ≡ Err (record { number = LARGE; place = c; detail = 0 }) → Leads g s d (state (goto basic) n c w o) u b m a o₁
large_answer {g} {n = n} {c = c} st k l e = Steps.broke (Steps.fails st (exceeding (fail LARGE 0) st k l (λ xs. large_number g c xs n) Steps.here)) e

-- ── Phrases of one lexeme ─────────────────────────────────────────────────────────────────────────

module _ {g : ℕ} {s : List ℕ} {d : ℕ} {q : Phrase} {n w w₁ j : ℕ} {c c₁ : Cursor} {o o₁ : List ℕ} where
  -- a lexeme of kind k is a record of at most 8 bytes
  pub one_leaf : {k t : ℕ} {f : List Field} → Stands s c → c.kind ≡ k → 1 < k
      → ((xs : List Lexeme) (u : Said) → choose g (rule (power g) q (sight c xs n k u)) ≡ leaf t f ▸ end) → Moved s c c₁ → length (entry t f) ≤ 8 → Wrote o w (entry t f) w₁ o₁
      → Leads g s d (state (goto q) n c w o) 0 end (n + 1) (reached c₁ w₁ j) o₁
  one_leaf {k} {t} {f} st e h r mv i u =
      let some : 1 < c.kind = omega (arith, e, h) in
      Steps.ends (omega arith) (Steps.leaved st mv some (small st some i) u (Steps.known (leaf t f ▸ end) st e r Steps.here))

  -- a name is a record of its place and its bytes
  pub one_name : (t : ℕ) → Stands s c → c.kind ≡ 55
      → ((xs : List Lexeme) → choose g (rule (power g) q (sight c xs n 55 (says (slice c.start c.end s)))) ≡ leaf t (span c.start c.end ∷ text (slice c.start c.end s) ∷ []) ▸ end)
      → Moved s c c₁ → Wrote o w (entry t (span c.start c.end ∷ text (take (c.end - c.start) (drop c.start s)) ∷ [])) w₁ o₁
      → Leads g s d (state (goto q) n c w o) 0 end (n + 1) (reached c₁ w₁ j) o₁
  one_name t st e r mv u =
      let written = wrote_lent t (λ (l : List ℕ). span c.start c.end ∷ text l ∷ []) s c.start c.end u in
      let there = Steps.called (leaf t (span c.start c.end ∷ text (slice c.start c.end s) ∷ []) ▸ end) st e r Steps.here in
      Steps.ends (omega arith) (Steps.leaved st mv (omega (arith, e)) (name_size t st) written there)

-- a phrase that is broken off by rule
module _ {g : ℕ} {s : List ℕ} {d : ℕ} {q : Phrase} {n w : ℕ} {c : Cursor} {o o₁ : List ℕ} where
  pub one_fault : {m x u k : ℕ} {b : Body} {a : Answer} → Stands s c
      → ((xs : List Lexeme) (t : Said) → choose g (rule (power g) q (sight c xs n c.kind t)) ≡ fail m x) → a ≡ Err (record { number = m; place = c; detail = x })
      → Leads g s d (state (goto q) n c w o) u b k a o₁
  one_fault {m} {x} st r e = Steps.broke (Steps.fails st (Steps.known (fail m x) st refl r Steps.here)) e
