-- Laws of clauses, members and elements: what they go on as, where the code's tests have picked a way.
-- Assumes nothing.
use Rattle.std.specs.Prelude.{Ok, Err}
use mathlib.Core.Path.{◌≡◌, refl, sym, ap, subst, subst⁻¹, ◌∙◌}
use mathlib.Core.Bool.{Bool, true, false, ◌&&◌}
use mathlib.Core.List.{List, [], ◌∷◌}
use Prim.Native.Nat.{ℕ, ◌+◌, ◌-◌, ◌*◌, ◌≤◌}
use native.Mathlib.Omega.{arith}
use lib.Dec.{eqb}
use lib.ListN.{length, take, drop}
use lib.Seq.{slice, length-slice}
use borrow.Author.Tests.{eq-eqb, ne_eqb}
use Rattle.grammar.specs.Trees.{byte, number, span, text, Trees, count as size}
use Rattle.grammar.specs.Image.{entry, payload}
use Rattle.grammar.specs.Writing.{Wrote}
use Rattle.grammar.specs.Lexemes.{Lexeme, Said, says, said, rest, kind_of, word_of}
use Rattle.grammar.specs.Productions.{Phrase, Body, end, goto, ◌▸◌, eat, sub, deep, close, rule, expression, exp_object_iteration, for_clause, pattern, header, iteration, iteration_value, clauses, more_clauses, if_clause, members, next_member, comprehension, array_first, array_comp, elements}
use Rattle.grammar.specs.Reading.{has, choose, view, production, Outcome, Reading, gone as read_gone}
use Rattle.grammar.proofs.Chosen.{pick_yes, pick_no, true_false}
use Rattle.leaves.specs.Lexing.{Stands, Moved, Header, header as is-header, off, no_bracket, no_key, not_closed, no_colon, Colons, none_more, one_more, two_more, Past, past, same}
use Rattle.leaves.specs.Meets.{power, State, state, Seg, Leads, Takes, Answer, reached}
use Rattle.leaves.proofs.LexemeLaws.{lies, Sees, sees, sees_next, sight, seen, name_says, moved_once}
use Rattle.leaves.proofs.PartLaws.{wrote_lent}
use Rattle.leaves.proofs.LeafLaws.{moved_past}
use Rattle.leaves.proofs.Steps
use Rattle.leaves.specs.declared.Cursor.{Cursor}
use Rattle.leaves.specs.declared.Refusal.{Refusal}
use Rattle.leaves.specs.declared.Done.{Done}

-- ── Tests ─────────────────────────────────────────────────────────────────────────────────────────

no_left : (a b : Bool) → a ≡ false → a && b ≡ false
no_left a b e = ap (λ (x : Bool). x && b) e

no_right : (a b : Bool) → b ≡ false → a && b ≡ false
no_right true b e = e
no_right false b e = refl

both : (a b : Bool) → a ≡ true → b ≡ true → a && b ≡ true
both a b e f = ap (λ (x : Bool). x && b) e ∙ f

is : (n k : ℕ) {m : ℕ} → n ≡ m → m ≡ k → eqb n k ≡ true
is n k e f = eq-eqb n k (e ∙ f)

is_not : (n k : ℕ) {m : ℕ} → n ≡ m → (m ≡ k → ⊥) → eqb n k ≡ false
is_not n k e f = ne_eqb n k (λ h. f (sym e ∙ h))

-- ── The header of an object iteration ─────────────────────────────────────────────────────────────

-- four kinds, where the setting has object iteration
abbrev four : ℕ → List Lexeme → Bool
four g xs = eqb (kind_of xs) 23 && eqb (kind_of (rest xs)) 55 && eqb (kind_of (rest (rest xs))) 24 && eqb (kind_of (rest (rest (rest xs)))) 29 && has g exp_object_iteration

not_four : {g : ℕ} {s : List ℕ} {c : Cursor} {r : Bool} {xs : List Lexeme} → Header g s c r → r ≡ false → Sees s c xs → four g xs ≡ false
not_four {xs = xs} (is-header _ _ _ _ _ _ _ _) h y = absurd (true_false h)
not_four {g} {xs = xs} (off e) h y =
    no_right (eqb (kind_of xs) 23 && eqb (kind_of (rest xs)) 55 && eqb (kind_of (rest (rest xs))) 24 && eqb (kind_of (rest (rest (rest xs)))) 29) (has g exp_object_iteration) e
not_four {g} {xs = xs} (no_bracket e) h y =
    no_left (eqb (kind_of xs) 23 && eqb (kind_of (rest xs)) 55 && eqb (kind_of (rest (rest xs))) 24 && eqb (kind_of (rest (rest (rest xs)))) 29) (has g exp_object_iteration)
    (no_left (eqb (kind_of xs) 23 && eqb (kind_of (rest xs)) 55 && eqb (kind_of (rest (rest xs))) 24) (eqb (kind_of (rest (rest (rest xs)))) 29)
    (no_left (eqb (kind_of xs) 23 && eqb (kind_of (rest xs)) 55) (eqb (kind_of (rest (rest xs))) 24)
    (no_left (eqb (kind_of xs) 23) (eqb (kind_of (rest xs)) 55) (is_not (kind_of xs) 23 y.kind e))))
not_four {g} {xs = xs} (no_key m e) h y =
    no_left (eqb (kind_of xs) 23 && eqb (kind_of (rest xs)) 55 && eqb (kind_of (rest (rest xs))) 24 && eqb (kind_of (rest (rest (rest xs)))) 29) (has g exp_object_iteration)
    (no_left (eqb (kind_of xs) 23 && eqb (kind_of (rest xs)) 55 && eqb (kind_of (rest (rest xs))) 24) (eqb (kind_of (rest (rest (rest xs)))) 29)
    (no_left (eqb (kind_of xs) 23 && eqb (kind_of (rest xs)) 55) (eqb (kind_of (rest (rest xs))) 24)
    (no_right (eqb (kind_of xs) 23) (eqb (kind_of (rest xs)) 55) (is_not (kind_of (rest xs)) 55 (sees_next y m).kind e))))
not_four {g} {xs = xs} (not_closed m m₁ e) h y =
    no_left (eqb (kind_of xs) 23 && eqb (kind_of (rest xs)) 55 && eqb (kind_of (rest (rest xs))) 24 && eqb (kind_of (rest (rest (rest xs)))) 29) (has g exp_object_iteration)
    (no_left (eqb (kind_of xs) 23 && eqb (kind_of (rest xs)) 55 && eqb (kind_of (rest (rest xs))) 24) (eqb (kind_of (rest (rest (rest xs)))) 29)
    (no_right (eqb (kind_of xs) 23 && eqb (kind_of (rest xs)) 55) (eqb (kind_of (rest (rest xs))) 24)
    (is_not (kind_of (rest (rest xs))) 24 (sees_next (sees_next y m) m₁).kind e)))
not_four {g} {xs = xs} (no_colon m m₁ m₂ e) h y =
    no_left (eqb (kind_of xs) 23 && eqb (kind_of (rest xs)) 55 && eqb (kind_of (rest (rest xs))) 24 && eqb (kind_of (rest (rest (rest xs)))) 29) (has g exp_object_iteration)
    (no_right (eqb (kind_of xs) 23 && eqb (kind_of (rest xs)) 55 && eqb (kind_of (rest (rest xs))) 24) (eqb (kind_of (rest (rest (rest xs)))) 29)
    (is_not (kind_of (rest (rest (rest xs)))) 29 (sees_next (sees_next (sees_next y m) m₁) m₂).kind e))

-- a clause over a pattern
abbrev pub over_pattern : Body
over_pattern = sub pattern ▸ eat 76 ▸ expression ▸ close 33 [] ▸ end

plain-production : (g p n : ℕ) (xs : List Lexeme) → four g xs ≡ false → production (power g) g for_clause p xs n ≡ over_pattern
unfolding production choose rule view
plain-production g p n xs e = pick_no (four g xs) (deep header ▸ goto (iteration (said (word_of (rest xs))))) over_pattern e

pub plain_clause : {g : ℕ} {s : List ℕ} {d : ℕ} {from : State} {n e v w : ℕ} {r : Bool} {c : Cursor} {o : List ℕ} → Stands s c → Header g s c r → r ≡ false
    → Seg g s d from e v (state (goto for_clause) n c w o) → Seg g s d from e v (state over_pattern n c w o)
plain_clause {g} {n = n} {c = c} st h i p = Steps.goes over_pattern st (λ xs y. plain-production g c.at n xs (not_four h i y)) p

-- ── Object iteration ──────────────────────────────────────────────────────────────────────────────

-- what stands at a header
pub record Heads (g : ℕ) (c key bracket colon : Cursor) : Type 0 where
  pub on : has g exp_object_iteration ≡ true
  pub first : c.kind ≡ 23
  pub second : key.kind ≡ 55
  pub third : bracket.kind ≡ 24
  pub fourth : colon.kind ≡ 29

pub heads : {g : ℕ} {s : List ℕ} {c key bracket colon : Cursor} → Header g s c true → Moved s c key → Moved s key bracket → Moved s bracket colon → Heads g c key bracket colon
heads {g} {s} {c} {key} {bracket} {colon} (is-header {c₁ = c₁} {c₂ = c₂} {c₃ = c₃} h k m k₁ m₁ k₂ m₂ k₃) n n₁ n₂ =
    let e : c₁ ≡ key = moved_once m n in
    let e₁ : c₂ ≡ bracket = moved_once (subst (λ (x : Cursor). Moved s x c₂) e m₁) n₁ in
    let e₂ : c₃ ≡ colon = moved_once (subst (λ (x : Cursor). Moved s x c₃) e₁ m₂) n₂ in
    record {
      on = h;
      first = k;
      second = subst (λ (x : Cursor). x.kind ≡ 55) e k₁;
      third = subst (λ (x : Cursor). x.kind ≡ 24) e₁ k₂;
      fourth = subst (λ (x : Cursor). x.kind ≡ 29) e₂ k₃;
    }

is_four : {g : ℕ} {s : List ℕ} {c key bracket colon : Cursor} {xs : List Lexeme} → Heads g c key bracket colon → Moved s c key → Moved s key bracket → Moved s bracket colon → Sees s c xs
    → four g xs ≡ true
is_four {g} {xs = xs} h m m₁ m₂ y =
    both (eqb (kind_of xs) 23 && eqb (kind_of (rest xs)) 55 && eqb (kind_of (rest (rest xs))) 24 && eqb (kind_of (rest (rest (rest xs)))) 29) (has g exp_object_iteration)
    (both (eqb (kind_of xs) 23 && eqb (kind_of (rest xs)) 55 && eqb (kind_of (rest (rest xs))) 24) (eqb (kind_of (rest (rest (rest xs)))) 29)
    (both (eqb (kind_of xs) 23 && eqb (kind_of (rest xs)) 55) (eqb (kind_of (rest (rest xs))) 24)
    (both (eqb (kind_of xs) 23) (eqb (kind_of (rest xs)) 55) (is (kind_of xs) 23 y.kind h.first) (is (kind_of (rest xs)) 55 (sees_next y m).kind h.second))
    (is (kind_of (rest (rest xs))) 24 (sees_next (sees_next y m) m₁).kind h.third))
    (is (kind_of (rest (rest (rest xs)))) 29 (sees_next (sees_next (sees_next y m) m₁) m₂).kind h.fourth))
    h.on

-- a clause over an object
abbrev pub over_object : List ℕ → Body
over_object key = deep header ▸ goto (iteration key)

header_production : (g p n : ℕ) (xs : List Lexeme) (key : List ℕ) → four g xs ≡ true → word_of (rest xs) ≡ says key → production (power g) g for_clause p xs n ≡ over_object key
unfolding production choose rule view said
header_production g p n xs key e f = pick_yes (four g xs) (over_object (said (word_of (rest xs)))) over_pattern e ∙ ap (λ (w : Said). over_object (said w)) f

pub header_clause : {g : ℕ} {s : List ℕ} {d : ℕ} {from : State} {n e v w : ℕ} {c key bracket colon : Cursor} {o : List ℕ} → Stands s c → Heads g c key bracket colon
    → Moved s c key → Moved s key bracket → Moved s bracket colon → Seg g s d from e v (state (goto for_clause) n c w o)
    → Seg g s d from e v (state (over_object (slice key.start key.end s)) n c w o)
header_clause {g} {s} {n = n} {c = c} {key = key} st h m m₁ m₂ p =
    let name = slice key.start key.end s in
    Steps.goes (over_object name) st
    (λ xs y. header_production g c.at n xs name (is_four h m m₁ m₂ y) (name_says h.second ((sees_next y m).says (λ z. omega (arith, h.second, z))))) p

-- bytes counted anew
pub repaid : {g : ℕ} {s : List ℕ} {d : ℕ} {from to : State} {e v : ℕ} (e₁ v₁ : ℕ) → from.cursor.at + e₁ ≤ to.cursor.at
    → to.written + 32 * (from.cursor.at + e₁) ≤ from.written + 32 * to.cursor.at + v₁ → Seg g s d from e v to → Seg g s d from e₁ v₁ to
repaid e₁ v₁ h i p =
    record {
      bytes = p.bytes;
      trees = p.trees;
      counted = p.counted;
      imaged = p.imaged;
      run = p.run;
      stored = p.stored;
      wrote = p.wrote;
      stands = p.stands;
      onward = h;
      credit = i;
    }

-- the colons of an object iteration
colons_three : (g p n : ℕ) (xs : List Lexeme) (key : List ℕ) → eqb (kind_of xs) 29 ≡ true → eqb (kind_of (rest xs)) 29 ≡ true → eqb (kind_of (rest (rest xs))) 29 ≡ true
    → production (power g) g (iteration key) p xs n ≡ eat 29 ▸ eat 29 ▸ eat 29 ▸ goto (iteration_value 2 key)
unfolding production choose rule view has
colons_three g p n xs key a b e = rw (a, b, e) refl

colons_two : (g p n : ℕ) (xs : List Lexeme) (key : List ℕ) → eqb (kind_of xs) 29 ≡ true → eqb (kind_of (rest xs)) 29 ≡ true → eqb (kind_of (rest (rest xs))) 29 ≡ false
    → production (power g) g (iteration key) p xs n ≡ eat 29 ▸ eat 29 ▸ goto (iteration_value 1 key)
unfolding production choose rule view has
colons_two g p n xs key a b e = rw (a, b, e) refl

colons_one : (g p n : ℕ) (xs : List Lexeme) (key : List ℕ) → eqb (kind_of xs) 29 ≡ true → eqb (kind_of (rest xs)) 29 ≡ false
    → production (power g) g (iteration key) p xs n ≡ eat 29 ▸ goto (iteration_value 0 key)
unfolding production choose rule view has
colons_one g p n xs key a b = rw (a, b) refl

pub iterated : {g : ℕ} {s : List ℕ} {d n w v : ℕ} {colon c₀ c₁ : Cursor} {o key : List ℕ} → Stands s colon → colon.kind ≡ 29 → Moved s colon c₀ → Colons s c₀ v c₁
    → Seg g s d (state (goto (iteration key)) n colon w o) 1 0 (state (goto (iteration_value v key)) n c₁ w o)
iterated {g} {n = n} {colon = colon} {key = key} st k m (none_more h) =
    Steps.taken (omega arith) st m k
    (Steps.goes (eat 29 ▸ goto (iteration_value 0 key)) st
    (λ xs y. colons_one g colon.at n xs key (is (kind_of xs) 29 y.kind k) (is_not (kind_of (rest xs)) 29 (sees_next y m).kind h)) Steps.here)
iterated {g} {n = n} {colon = colon} {key = key} st k m (one_more k₁ m₁ h) =
    let q =
    Steps.taken (omega arith) m.stands m₁ k₁
    (Steps.taken (omega arith) st m k
    (Steps.goes (eat 29 ▸ eat 29 ▸ goto (iteration_value 1 key)) st
    (λ xs y. colons_two g colon.at n xs key (is (kind_of xs) 29 y.kind k) (is (kind_of (rest xs)) 29 (sees_next y m).kind k₁)
    (is_not (kind_of (rest (rest xs))) 29 (sees_next (sees_next y m) m₁).kind h)) Steps.here)) in
    repaid 1 0 (omega (arith, q.onward)) (omega (arith, q.credit)) q
iterated {g} {n = n} {colon = colon} {key = key} st k m (two_more k₁ m₁ k₂ m₂) =
    let q =
    Steps.taken (omega arith) m₁.stands m₂ k₂
    (Steps.taken (omega arith) m.stands m₁ k₁
    (Steps.taken (omega arith) st m k
    (Steps.goes (eat 29 ▸ eat 29 ▸ eat 29 ▸ goto (iteration_value 2 key)) st
    (λ xs y. colons_three g colon.at n xs key (is (kind_of xs) 29 y.kind k) (is (kind_of (rest xs)) 29 (sees_next y m).kind k₁)
    (is (kind_of (rest (rest xs))) 29 (sees_next (sees_next y m) m₁).kind k₂)) Steps.here))) in
    repaid 1 0 (omega (arith, q.onward)) (omega (arith, q.credit)) q

-- the header, one level deeper
header_read : {g : ℕ} {s : List ℕ} {d w : ℕ} {c key bracket colon : Cursor} {o : List ℕ} → Stands s c → Heads g c key bracket colon → Moved s c key → Moved s key bracket
    → Moved s bracket colon → Seg g s d (state (goto header) 0 c w o) 3 0 (state end 0 colon w o)
unfolding rule choose sight
header_read st h m m₁ m₂ =
    Steps.taken (omega arith) m₁.stands m₂ h.third
    (Steps.taken (omega arith) m.stands m₁ h.second
    (Steps.taken (omega arith) st m h.first (Steps.known (eat 23 ▸ eat 55 ▸ eat 24 ▸ end) st refl (λ xs t. refl) Steps.here)))

-- all up to the pattern: it pays for the key
pub iterates : {g : ℕ} {s : List ℕ} {d w v : ℕ} {c key bracket colon c₀ c₁ : Cursor} {o : List ℕ} → ¬ (d ≡ 0) → Stands s c → Header g s c true → Moved s c key → Moved s key bracket
    → Moved s bracket colon → Moved s colon c₀ → Colons s c₀ v c₁
    → Seg g s d (state (goto for_clause) 0 c w o) (key.end - key.start + 1) 0
    (state (sub pattern ▸ eat 76 ▸ expression ▸ close 35 (byte v ∷ text (slice key.start key.end s) ∷ []) ▸ end) 0 c₁ w o)
unfolding rule choose sight
iterates {g} {s} {d} {w} {v} {c} {key} {bracket} {colon} {c₁ = c₁} {o} h st i m m₁ m₂ m₃ z =
    let hs = heads i m m₁ m₂ in
    let name = slice key.start key.end s in
    let inner = Steps.ends {k = 0} (omega arith) (header_read {d = d - 1} {w = w} {o = o} st hs m m₁ m₂) in
    let outer = Steps.took (Steps.as_deep h inner) refl (header_clause {d = d} st hs m m₁ m₂ (Steps.at g s d (goto for_clause) 0 c w o)) in
    let tail = iterated {g = g} {s = s} {d = d} {n = 0} {w = w} {o = o} {key = name} m₂.stands hs.fourth m₃ z in
    let last = tail.stands m₂.stands in
    let whole = Steps.known (sub pattern ▸ eat 76 ▸ expression ▸ close 35 (byte v ∷ text name ∷ []) ▸ end) last refl (λ xs t. refl) (Steps.onto outer tail) in
    let l = lies st in
    let l₁ = lies m.stands in
    let l₂ = lies m₁.stands in
    let far : c.at + (key.end - key.start + 1) ≤ c₁.at = omega (arith, l.from, l.on, m.at, l₁.from, l₁.on, m₁.at, l₂.from, l₂.on, m₂.at, tail.onward) in
    repaid (key.end - key.start + 1) 0 far (omega (arith, far)) whole

key_size : (s : List ℕ) (a e v : ℕ) → e ≤ length s → length (entry 35 (byte v ∷ text (slice a e s) ∷ [])) ≤ 4 + (e - a)
unfolding entry payload
key_size s a e v h = omega (arith, length-slice a e s h)

-- its record
pub iteration_closed : {g : ℕ} {s : List ℕ} {d n w w₁ : ℕ} {from : State} {c : Cursor} {o o₁ : List ℕ} (a e v : ℕ) → e ≤ length s
    → Wrote o w (entry 35 (byte v ∷ text (take (e - a) (drop a s)) ∷ [])) w₁ o₁
    → Seg g s d from (e - a + 1 + 1) 0 (state (close 35 (byte v ∷ text (slice a e s) ∷ []) ▸ end) n c w o) → Seg g s d from 0 0 (state end 1 c w₁ o₁)
iteration_closed {s = s} a e v h u p =
    Steps.settled 0 (omega arith) (Steps.closed (4 + (e - a)) (key_size s a e v h) (wrote_lent 35 (λ (l : List ℕ). byte v ∷ text l ∷ []) s a e u) p)

-- no level is left for a header
pub too_deep_clause : {g : ℕ} {s : List ℕ} {d n w u k : ℕ} {b : Body} {c : Cursor} {o o₁ : List ℕ} {a : Answer} → d ≡ 0 → Stands s c → Header g s c true
    → a ≡ Err (record { number = 11; place = c; detail = 0 }) → Leads g s d (state (goto for_clause) n c w o) u b k a o₁
too_deep_clause e st (is-header h k m k₁ m₁ k₂ m₂ k₃) q =
    Steps.broke (Steps.breaks_on (Steps.too_deep e st) (header_clause st (heads (is-header h k m k₁ m₁ k₂ m₂ k₃) m m₁ m₂) m m₁ m₂ Steps.here)) q

-- ── Clauses ───────────────────────────────────────────────────────────────────────────────────────

ungone : {g d : ℕ} {q : Phrase} {ts : Trees} {p : ℕ} {xs : List Lexeme} {o : Outcome} → Reading (power g) g (goto q) ts d p xs o → Reading (power g) g (production (power g) g q p xs (size ts)) ts d p xs o
ungone (read_gone r) = r

-- two phrases that are the same here
same_here : {g : ℕ} {s : List ℕ} {d : ℕ} {from : State} {q q₁ : Phrase} {n e v w : ℕ} {c : Cursor} {o : List ℕ} → Stands s c
    → ((xs : List Lexeme) → Sees s c xs → production (power g) g q c.at xs n ≡ production (power g) g q₁ c.at xs n)
    → Seg g s d from e v (state (goto q) n c w o) → Seg g s d from e v (state (goto q₁) n c w o)
same_here {g} {s} {d} {q = q} {q₁} {n} {c = c} st f p =
    record {
      bytes = p.bytes;
      trees = p.trees;
      counted = p.counted;
      imaged = p.imaged;
      run = λ ts xs z h.
          let r = p.run ts xs z h in
          let y = sees st refl r.kept in
          let there : Body → Outcome → Type 0 = λ (x : Body) (o : Outcome). Reading (power g) g x (p.trees ts) d c.at r.left o in
          record {
            left = r.left;
            kept = r.kept;
            back = λ o x. r.back o (read_gone (subst⁻¹ (λ (m : ℕ). there (production (power g) g q c.at r.left m) o) (p.counted ts z)
                (subst⁻¹ (λ (m : Body). there m o) (f r.left y) (subst (λ (m : ℕ). there (production (power g) g q₁ c.at r.left m) o) (p.counted ts z) (ungone x)))));
          };
      stored = p.stored;
      wrote = p.wrote;
      stands = p.stands;
      onward = p.onward;
      credit = p.credit;
    }

first_for : (g n : ℕ) (c : Cursor) (xs : List Lexeme) (t : Said) → choose g (rule (power g) clauses (sight c xs n 83 t)) ≡ choose g (rule (power g) more_clauses (sight c xs n 83 t))
unfolding rule choose sight has
first_for g n c xs t = refl

-- at `for` the first clause is as any other
pub clauses_begin : {g : ℕ} {s : List ℕ} {d : ℕ} {from : State} {n e v w : ℕ} {c : Cursor} {o : List ℕ} → Stands s c → c.kind ≡ 83
    → Seg g s d from e v (state (goto clauses) n c w o) → Seg g s d from e v (state (goto more_clauses) n c w o)
clauses_begin {g} {n = n} {c = c} st k p =
    same_here st (λ xs y. seen (power g) g clauses n y k refl ∙ first_for g n c xs (word_of xs) ∙ sym (seen (power g) g more_clauses n y k refl)) p

-- what an `if` reads, with the keyword's range
module _ {g : ℕ} {s : List ℕ} {d : ℕ} (i j : ℕ) {w : ℕ} {c : Cursor} {o o₁ : List ℕ} {a : Answer} where
  pub if_read : {x : Done} {w₂ : ℕ} {o₂ : List ℕ} → Stands s c → Takes g s expression 1 0 d c w o a o₁ → a ≡ Ok x → Wrote o₁ x.1 (entry 34 (span i j ∷ [])) w₂ o₂
      → Takes g s (sub (if_clause i j)) 1 7 d c w o (reached x.0 w₂ 1) o₂
  unfolding rule choose sight entry payload
  if_read st m e u =
      Steps.as_sub (Steps.owes (omega arith) (Steps.closed 7 (omega arith) u (Steps.took m e
      (Steps.known (expression ▸ close 34 (span i j ∷ []) ▸ end) st refl (λ xs t. refl) (Steps.at g s d (goto (if_clause i j)) 0 c w o)))))

  pub if_broken : {a′ : Answer} {r : Refusal} → Stands s c → Takes g s expression 1 0 d c w o a o₁ → a ≡ Err r → a′ ≡ Err r → Takes g s (sub (if_clause i j)) 1 7 d c w o a′ o₁
  unfolding rule choose sight
  if_broken st m e t =
      Steps.as_sub (Steps.passed (Steps.takes_broken m e t)
      (Steps.known (expression ▸ close 34 (span i j ∷ []) ▸ end) st refl (λ xs t. refl) (Steps.at g s d (goto (if_clause i j)) 0 c w o)))

-- ── Members ───────────────────────────────────────────────────────────────────────────────────────

-- where no comma stood
here_still : {g : ℕ} {s : List ℕ} {d : ℕ} {from : State} {n e v w : ℕ} {c c₁ : Cursor} {o : List ℕ} {b : Body} → c₁ ≡ c → Seg g s d from e v (state b n c w o)
    → Seg g s d from e v (state b n c₁ w o)
here_still {g} {s} {d} {from} {n} {e} {v} {w} {o = o} {b} i p = subst⁻¹ (λ (x : Cursor). Seg g s d from e v (state b n x w o)) i p

module _ {g : ℕ} {s : List ℕ} {d : ℕ} {from : State} {f n e v w : ℕ} {c c₁ : Cursor} {o : List ℕ} where
  -- past a comma
  pub members_next : Stands s c → Past s c c₁ → c.kind ≡ 33 → Seg g s d from e v (state (goto (members f)) n c w o) → Seg g s d from e v (state (goto (next_member f)) n c₁ w o)
  unfolding rule choose has sight
  members_next st i k p =
      let q = Steps.taken (omega arith) st (moved_past i k) k (Steps.known (eat 33 ▸ goto (next_member f)) st k (λ xs t. refl) p) in
      repaid e v (omega (arith, q.onward)) (omega (arith, q.credit)) q

  pub members_last : Stands s c → Past s c c₁ → ¬ (c.kind ≡ 33) → ¬ (c₁.kind ≡ 83) → Seg g s d from e v (state (goto (members f)) n c w o)
      → Seg g s d from e v (state (close 9 (number n ∷ []) ▸ end) n c₁ w o)
  unfolding rule choose has sight
  members_last st (past k mv) h i p = absurd (h k)
  members_last st (same k z) h i p =
      let j : ¬ (c.kind ≡ 83) = λ y. i (ap (λ (x : Cursor). x.kind) z ∙ y) in
      here_still z (Steps.known (close 9 (number n ∷ []) ▸ end) st refl (λ xs t. simp (ne_eqb c.kind 33 h, ne_eqb c.kind 83 j)) p)

  -- `for`
  pub members_for : Stands s c → Past s c c₁ → c₁.kind ≡ 83 → Seg g s d from e v (state (goto (members f)) n c w o) → Seg g s d from e v (state (goto (comprehension f)) n c₁ w o)
  unfolding rule choose has sight
  members_for st (past k mv) h p = Steps.known (goto (comprehension f)) mv.stands h (λ xs t. refl) (members_next st (past k mv) k p)
  members_for st (same k z) h p =
      here_still z (Steps.known (goto (comprehension f)) st (sym (ap (λ (x : Cursor). x.kind) z) ∙ h) (λ xs t. refl) p)

-- ── Elements ──────────────────────────────────────────────────────────────────────────────────────

module _ (g p n : ℕ) (xs : List Lexeme) where
  first_comma : eqb (kind_of xs) 83 ≡ false → eqb (kind_of xs) 33 ≡ true → eqb (kind_of (rest xs)) 83 ≡ true → production (power g) g array_first p xs n ≡ eat 33 ▸ goto array_comp
  unfolding production choose rule view has
  first_comma a b e = rw (a, b, e) refl

  first_alone : eqb (kind_of xs) 83 ≡ false → eqb (kind_of xs) 33 ≡ true → eqb (kind_of (rest xs)) 83 ≡ false → production (power g) g array_first p xs n ≡ goto elements
  unfolding production choose rule view has
  first_alone a b e = rw (a, b, e) refl

  first_other : eqb (kind_of xs) 83 ≡ false → eqb (kind_of xs) 33 ≡ false → production (power g) g array_first p xs n ≡ goto elements
  unfolding production choose rule view has
  first_other a b = rw (a, b) refl

module _ {g : ℕ} {s : List ℕ} {d : ℕ} {from : State} {n e v w : ℕ} {c c₁ : Cursor} {o : List ℕ} where
  -- at its clauses, perhaps after a comma
  pub array_for : Stands s c → Past s c c₁ → c₁.kind ≡ 83 → Seg g s d from e v (state (goto array_first) n c w o) → Seg g s d from e v (state (goto array_comp) n c₁ w o)
  unfolding rule choose has sight
  array_for st (past k mv) h p =
      let q =
      Steps.taken (omega arith) st mv k
      (Steps.goes (eat 33 ▸ goto array_comp) st
      (λ xs y. first_comma g c.at n xs (is_not (kind_of xs) 83 y.kind (λ z. omega (arith, z, k))) (is (kind_of xs) 33 y.kind k) (is (kind_of (rest xs)) 83 (sees_next y mv).kind h)) p) in
      repaid e v (omega (arith, q.onward)) (omega (arith, q.credit)) q
  array_for st (same j z) h p = here_still z (Steps.known (goto array_comp) st (sym (ap (λ (x : Cursor). x.kind) z) ∙ h) (λ xs t. refl) p)

  -- at no clauses: the comma, if there is one, is before an element
  pub array_no_for : Stands s c → Past s c c₁ → ¬ (c₁.kind ≡ 83) → Seg g s d from e v (state (goto array_first) n c w o) → Seg g s d from e v (state (goto elements) n c w o)
  array_no_for st (past k mv) h p =
      Steps.goes (goto elements) st
      (λ xs y. first_alone g c.at n xs (is_not (kind_of xs) 83 y.kind (λ z. omega (arith, z, k))) (is (kind_of xs) 33 y.kind k) (is_not (kind_of (rest xs)) 83 (sees_next y mv).kind h)) p
  array_no_for st (same j z) h p =
      let i : ¬ (c.kind ≡ 83) = λ y. h (ap (λ (x : Cursor). x.kind) z ∙ y) in
      Steps.goes (goto elements) st (λ xs y. first_other g c.at n xs (is_not (kind_of xs) 83 y.kind i) (is_not (kind_of xs) 33 y.kind j)) p
