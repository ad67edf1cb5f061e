-- Laws of fields: which production a field's value is read by, told by where its colons end.
-- Assumes nothing.
use Rattle.std.specs.Prelude.{Ok, Err}
use mathlib.Core.Path.{◌≡◌, refl, sym, ap, subst, subst⁻¹, ◌∙◌}
use mathlib.Core.Bool.{Bool, true, false, ◌&&◌}
use mathlib.Core.List.{List, [], ◌∷◌}
use Prim.Native.Nat.{ℕ, ◌+◌, ◌-◌, ◌<◌}
use native.Mathlib.Omega.{arith}
use lib.Dec.{eqb}
use borrow.Author.Tests.{eq-eqb, ne_eqb}
use Rattle.grammar.specs.Trees.{Trees, none, byte, number, span, count as size}
use Rattle.grammar.specs.Lexemes.{Lexeme, rest, kind_of}
use Rattle.grammar.specs.Productions.{Phrase, Body, end, goto, ◌▸◌, eat, close, rule, row, ◌∣◌, otherwise, always, expression, field_value}
use Rattle.grammar.specs.Reading.{Outcome, done, Reading, ended, gone as read_gone, eaten, production, view, choose, has}
use Rattle.leaves.specs.Lexing.{Left, Stands, Moved, Colons, none_more, one_more, two_more}
use Rattle.leaves.specs.Meets.{Ready, power, State, state, Seg, Breaks, Eats, bound, Answer, reached}
use Rattle.leaves.proofs.LexemeLaws.{Sees, sees, sees_next}
use Rattle.leaves.proofs.LeafLaws.{ate_stands}
use Rattle.leaves.proofs.Steps
use Rattle.leaves.specs.declared.Cursor.{Cursor}
use Rattle.leaves.specs.declared.Done.{Done}
use Rattle.leaves.specs.declared.Refusal.{Refusal}

-- ── Three productions, by how many of three tests hold ────────────────────────────────────────────

module _ (g : ℕ) where
  pick_0 : (x y z : Bool) (b₂ b₁ b₀ : Body) → y ≡ false → choose g (row always (x && y && z) b₂ ∣ row always (x && y) b₁ ∣ otherwise b₀) ≡ b₀
  unfolding choose
  pick_0 true true z b₂ b₁ b₀ e = absurd (let q : ◌≡◌ {A = ℕ} 0 1 = cc in omega arith)
  pick_0 true false z b₂ b₁ b₀ e = refl
  pick_0 false y z b₂ b₁ b₀ e = refl

  pick_1 : (x y z : Bool) (b₂ b₁ b₀ : Body) → x ≡ true → y ≡ true → z ≡ false → choose g (row always (x && y && z) b₂ ∣ row always (x && y) b₁ ∣ otherwise b₀) ≡ b₁
  unfolding choose has
  pick_1 true true false b₂ b₁ b₀ e f h = refl
  pick_1 true true true b₂ b₁ b₀ e f h = absurd (let q : ◌≡◌ {A = ℕ} 0 1 = cc in omega arith)
  pick_1 true false z b₂ b₁ b₀ e f h = absurd (let q : ◌≡◌ {A = ℕ} 0 1 = cc in omega arith)
  pick_1 false y z b₂ b₁ b₀ e f h = absurd (let q : ◌≡◌ {A = ℕ} 0 1 = cc in omega arith)

  pick_2 : (x y z : Bool) (b₂ b₁ b₀ : Body) → x ≡ true → y ≡ true → z ≡ true → choose g (row always (x && y && z) b₂ ∣ row always (x && y) b₁ ∣ otherwise b₀) ≡ b₂
  unfolding choose has
  pick_2 true true true b₂ b₁ b₀ e f h = refl
  pick_2 true true false b₂ b₁ b₀ e f h = absurd (let q : ◌≡◌ {A = ℕ} 0 1 = cc in omega arith)
  pick_2 true false z b₂ b₁ b₀ e f h = absurd (let q : ◌≡◌ {A = ℕ} 0 1 = cc in omega arith)
  pick_2 false y z b₂ b₁ b₀ e f h = absurd (let q : ◌≡◌ {A = ℕ} 0 1 = cc in omega arith)

  pick_any : (k : ℕ) (t₂ t₁ : Bool) (b₂ b₁ b₀ : Body) → (b : Body) × (choose g (row always t₂ (eat k ▸ b₂) ∣ row always t₁ (eat k ▸ b₁) ∣ otherwise (eat k ▸ b₀)) ≡ eat k ▸ b)
  unfolding choose has
  pick_any k true t₁ b₂ b₁ b₀ = (b₂, refl)
  pick_any k false true b₂ b₁ b₀ = (b₁, refl)
  pick_any k false false b₂ b₁ b₀ = (b₀, refl)

-- ── What `eat` saw ────────────────────────────────────────────────────────────────────────────────

eaten_kind : {g k : ℕ} {ts us : Trees} {d p r : ℕ} {xs ys : List Lexeme} → Reading (power g) g (eat k ▸ end) ts d p xs (done us r ys) → kind_of xs ≡ k
eaten_kind (eaten e _) = e

pub ate_kind : {s : List ℕ} {k w : ℕ} {c : Cursor} {a : Answer} {x : Done} {xs : List Lexeme} → Eats s k c w a → a ≡ Ok x → Left s c.at xs → kind_of xs ≡ k
unfolding size
ate_kind {x = y} {xs = xs} m q l =
    let x = Steps.led ((m.eats 0 0 []).takes end 0) q in
    let r = x.run none xs refl l in
    eaten_kind (r.back (done (x.trees none) y.0.at r.left) ended)

pub ate_moved : {s : List ℕ} {k w : ℕ} {c : Cursor} {a : Answer} {x : Done} → Stands s c → Eats s k c w a → a ≡ Ok x → Moved s c x.0
ate_moved {x = x} st m q = record { at = (m.moved x.0 x.1 x.2 q).2; stands = ate_stands st m q }

regone : {g d : ℕ} {q : Phrase} {b : Body} {ts : Trees} {n p : ℕ} {xs : List Lexeme} {o : Outcome} → production (power g) g q p xs n ≡ b → size ts ≡ n → Reading (power g) g b ts d p xs o
    → Reading (power g) g (goto q) ts d p xs o
regone {g} {d} {q} {b} {ts} {n} {p} {xs} {o} e z r =
    let there : Body → Type 0 = λ (x : Body). Reading (power g) g x ts d p xs o in
    read_gone (subst⁻¹ (λ (m : ℕ). there (production (power g) g q p xs m)) z (subst⁻¹ there e r))

module _ {g : ℕ} {s : List ℕ} {d : ℕ} where
  -- the phrase goes on as its production says, of the lexemes that are left
  pub goes_left : {from : State} {q : Phrase} {n e v w : ℕ} {c : Cursor} {o : List ℕ} (b : Body) → Stands s c
      → ((xs : List Lexeme) → Left s c.at xs → Sees s c xs → production (power g) g q c.at xs n ≡ b)
      → Seg g s d from e v (state (goto q) n c w o) → Seg g s d from e v (state b n c w o)
  goes_left {q = q} {n} {c = c} b st f p =
      record {
        bytes = p.bytes;
        trees = p.trees;
        counted = p.counted;
        imaged = p.imaged;
        run = λ ts xs z h.
            let r = p.run ts xs z h in
            let y = sees st refl r.kept in
            let there : Body → Outcome → Type 0 = λ (x : Body) (o : Outcome). Reading (power g) g x (p.trees ts) d c.at r.left o in
            record {
              left = r.left;
              kept = r.kept;
              back = λ o x. r.back o (read_gone (subst⁻¹ (λ (m : ℕ). there (production (power g) g q c.at r.left m) o) (p.counted ts z) (subst⁻¹ (λ (m : Body). there m o) (f r.left r.kept y) x)));
            };
        stored = p.stored;
        wrote = p.wrote;
        stands = p.stands;
        onward = p.onward;
        credit = p.credit;
      }

  -- a lexeme that every production begins with is not there
  pub goes_broken : {q : Phrase} {n k w : ℕ} {c : Cursor} {o : List ℕ} {a a′ : Answer} {r : Refusal} → ((xs : List Lexeme) → (b : Body) × (production (power g) g q c.at xs n ≡ eat k ▸ b))
      → Eats s k c w a → a ≡ Err r → a′ ≡ Err r → (r : Refusal) × (a′ ≡ Err r) × Breaks g s d (state (goto q) n c w o) r
  goes_broken {q} {n} {k} {w} {c} {o} {r = r} f m t e =
      let any : (b : Body) → Breaks g s d (state (eat k ▸ b) n c w o) r = λ b. Steps.refused ((m.eats g d o).takes b n) t in (
        r,
        e,
        record {
          breaks = λ ts xs z h.
              let y = f xs in
              let u = (any y.0).breaks ts xs z h in
              record {
                left = u.left;
                kept = u.kept;
                reading = regone y.1 z u.reading;
              };
          stands = (any end).stands;
        },
      )

-- ── A field from its visibility on ────────────────────────────────────────────────────────────────

-- after the colons
abbrev pub valued : ℕ → ℕ → ℕ → ℕ → ℕ → ℕ → ℕ → Body
valued i j k p m n b = expression ▸ close 31 (span i j ∷ byte k ∷ byte p ∷ byte m ∷ number n ∷ byte b ∷ []) ▸ end

module _ (g : ℕ) (at : ℕ) (xs : List Lexeme) (n i j k p m : ℕ) where
  one_less : (b : ℕ) → valued i j k p m (n + 1 - 1) b ≡ valued i j k p m n b
  one_less b = ap (λ (x : ℕ). valued i j k p m x b) (let q : n + 1 - 1 ≡ n = omega arith in q)

  one_colon : ¬ (kind_of (rest xs) ≡ 29) → production (power g) g (field_value i j k p m) at xs (n + 1) ≡ eat 29 ▸ valued i j k p m n 0
  unfolding production view rule
  one_colon h =
      pick_0 g (eqb (kind_of xs) 29) (eqb (kind_of (rest xs)) 29) (eqb (kind_of (rest (rest xs))) 29) _ _ _ (ne_eqb _ 29 h)
      ∙ ap (λ (x : Body). eat 29 ▸ x) (one_less 0)

  two_colons : kind_of xs ≡ 29 → kind_of (rest xs) ≡ 29 → ¬ (kind_of (rest (rest xs)) ≡ 29) → production (power g) g (field_value i j k p m) at xs (n + 1) ≡ eat 29 ▸ eat 29 ▸ valued i j k p m n 1
  unfolding production view rule
  two_colons e f h =
      pick_1 g (eqb (kind_of xs) 29) (eqb (kind_of (rest xs)) 29) (eqb (kind_of (rest (rest xs))) 29) _ _ _ (eq-eqb _ 29 e) (eq-eqb _ 29 f) (ne_eqb _ 29 h)
      ∙ ap (λ (x : Body). eat 29 ▸ eat 29 ▸ x) (one_less 1)

  three_colons : kind_of xs ≡ 29 → kind_of (rest xs) ≡ 29 → kind_of (rest (rest xs)) ≡ 29
      → production (power g) g (field_value i j k p m) at xs (n + 1) ≡ eat 29 ▸ eat 29 ▸ eat 29 ▸ valued i j k p m n 2
  unfolding production view rule
  three_colons e f h =
      pick_2 g (eqb (kind_of xs) 29) (eqb (kind_of (rest xs)) 29) (eqb (kind_of (rest (rest xs))) 29) _ _ _ (eq-eqb _ 29 e) (eq-eqb _ 29 f) (eq-eqb _ 29 h)
      ∙ ap (λ (x : Body). eat 29 ▸ eat 29 ▸ eat 29 ▸ x) (one_less 2)

  pub some_colon : (x : ℕ) → (b : Body) × (production (power g) g (field_value i j k p m) at xs x ≡ eat 29 ▸ b)
  unfolding production view rule
  some_colon x = pick_any g 29 _ _ _ _ _

module _ {g : ℕ} {s : List ℕ} {d : ℕ} {from : State} {i j k p m n e v w : ℕ} {c₀ : Cursor} {o : List ℕ} {a : Answer} {y : Done} where
  -- no more is said of how many bytes the further colons take
  pub colons : {b : ℕ} {c₂ : Cursor} → Stands s c₀ → Eats s 29 c₀ w a → a ≡ Ok y → Colons s y.0 b c₂
      → Seg g s d from e v (state (goto (field_value i j k p m)) (n + 1) c₀ w o) → Seg g s d from (e + 1) v (state (valued i j k p m n b) (n + 1) c₂ y.1 o)
  colons st t q (none_more h) r =
      let mv = ate_moved st t q in
      Steps.ate t q (goes_left (eat 29 ▸ valued i j k p m n 0) st (λ xs l y. one_colon g c₀.at xs n i j k p m (λ z. h (sym (sees_next y mv).kind ∙ z))) r)
  colons {c₂ = c₂} st t q (one_more f mv₁ h) r =
      let mv = ate_moved st t q in
      let there =
      goes_left (eat 29 ▸ eat 29 ▸ valued i j k p m n 1) st
      (λ xs l y. let y₁ = sees_next y mv in let y₂ = sees_next y₁ mv₁ in two_colons g c₀.at xs n i j k p m (ate_kind t q l) (y₁.kind ∙ f) (λ z. h (sym y₂.kind ∙ z))) r
      in
      let same : e + 1 + 0 ≡ e + 1 = omega arith in
      subst (λ (u : ℕ). Seg g s d from u v (state (valued i j k p m n 1) (n + 1) c₂ y.1 o)) same (Steps.taken_of 0 (omega arith) mv.stands mv₁ f (Steps.ate t q there))
  colons {c₂ = c₂} st t q (two_more f mv₁ h mv₂) r =
      let mv = ate_moved st t q in
      let there =
      goes_left (eat 29 ▸ eat 29 ▸ eat 29 ▸ valued i j k p m n 2) st
      (λ xs l y. let y₁ = sees_next y mv in let y₂ = sees_next y₁ mv₁ in three_colons g c₀.at xs n i j k p m (ate_kind t q l) (y₁.kind ∙ f) (y₂.kind ∙ h)) r
      in
      let same : e + 1 + 0 + 0 ≡ e + 1 = omega arith in
      subst (λ (u : ℕ). Seg g s d from u v (state (valued i j k p m n 2) (n + 1) c₂ y.1 o)) same
      (Steps.taken_of 0 (omega arith) mv₁.stands mv₂ h (Steps.taken_of 0 (omega arith) mv.stands mv₁ f (Steps.ate t q there)))

-- ── A bind with parameters ────────────────────────────────────────────────────────────────────────

-- the trees but for the name are the parameters
pub with_params : (n m : ℕ) → n ≡ m + 1 → bound 1 (n - 1) ≡ bound 1 m
with_params n m e = ap (bound 1) (let q : n - 1 ≡ m = omega (arith, e) in q)

-- ── Places ────────────────────────────────────────────────────────────────────────────────────────

pub place : {s : List ℕ} {c c₁ : Cursor} {w : ℕ} → Ready s c w → Stands s c₁ → c₁.at < 65536
place r st = omega (arith, r.stands.short, st.within)
