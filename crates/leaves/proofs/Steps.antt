-- The steps of a reading: what each step of a production adds to a stretch, and the ways to end.
-- Assumes nothing.
use Rattle.std.specs.Prelude.{Ok, Err, IsErr, IsErrAnd}
use mathlib.Core.Path.{◌≡◌, refl, sym, ap, subst, subst⁻¹, ◌∙◌}
use mathlib.Core.List.{List, [], ◌++◌, append_assoc, append-nil}
use Prim.Native.Nat.{ℕ, suc, ◌+◌, ◌-◌, ◌*◌, ◌≤◌, ◌<◌, ◌^◌}
use native.Mathlib.Omega.{arith}
use lib.ListN.{length, length-append}
use lib.Seq.{sets, slice, length-sets}
use Rattle.strings.proofs.Stores.{sets_append}
use Rattle.grammar.specs.Trees.{Field, Trees, none, tree, ◌⊕◌, count as size}
use Rattle.grammar.specs.Image.{image, entry}
use Rattle.grammar.specs.Lexemes.{Lexeme, Said, says, rest, word_of}
use Rattle.grammar.specs.Writing.{Wrote}
use Rattle.grammar.specs.Productions.{Phrase, Body, end, goto, fail, ◌▸◌, Step, eat, leaf, sub, deep, close, rule}
use Rattle.grammar.specs.Reading.{Outcome, done, Reading, ended, failed, gone as read_gone, eaten, uneaten, leafed, closed as read-closed, subbed, unsubbed, deepened, undeepened, too_deep as read-too-deep, production, choose}
use Rattle.leaves.specs.Lexing.{Left, Stands, Moved}
use Rattle.leaves.specs.Meets.{power, Ready, State, state, Seg, Breaks, Led, Leads, Takes, TakesSome, Counted, Counts, Told, Tells, Eats, Answer, reached}
use Rattle.grammar.proofs.ImageLaws.{image-row, count-row, image_close, image-leaf}
use Rattle.leaves.proofs.LexemeLaws.{lies, Sees, sees, sight, seen, name_says}
use Rattle.leaves.specs.declared.Cursor.{Cursor}
use Rattle.leaves.specs.declared.Refusal.{Refusal}
use Rattle.leaves.specs.declared.Done.{Done}

-- ── Where a function begins ───────────────────────────────────────────────────────────────────────

module _ {g : ℕ} {s : List ℕ} {d : ℕ} where
  -- nothing yet
  pub here : {from : State} → Seg g s d from 0 0 from
  here =
      record {
        bytes = [];
        trees = λ ts. ts;
        counted = λ ts e. e;
        imaged = λ ts. sym (append-nil (image ts));
        run = λ ts xs e h. record { left = xs; kept = h; back = λ o r. r };
        stored = refl;
        wrote = omega arith;
        stands = λ h. h;
        onward = omega arith;
        credit = omega arith;
      }

-- the same, said with its state
pub at : (g : ℕ) (s : List ℕ) (d : ℕ) (b : Body) (n : ℕ) (c : Cursor) (w : ℕ) (o : List ℕ) → Seg g s d (state b n c w o) 0 0 (state b n c w o)
at g s d b n c w o = here

-- ── Stretches ─────────────────────────────────────────────────────────────────────────────────────

-- what a phrase goes on as
ungone : {g d : ℕ} {q : Phrase} {ts : Trees} {p : ℕ} {xs : List Lexeme} {o : Outcome} → Reading (power g) g (goto q) ts d p xs o → Reading (power g) g (production (power g) g q p xs (size ts)) ts d p xs o
ungone (read_gone r) = r

-- an answer ends in one way
pub one_end : {x y : Done} → ◌≡◌ {A = Answer} (Ok x) (Ok y) → x ≡ y
one_end e = cc

-- what `?` hands on of a refusal
pub handed : {r : Refusal} {a : Answer} → IsErr a × IsErrAnd a (λ x. x ≡ r) → a ≡ Err r
handed {a = Ok x} h = absurd h.1
handed {a = Err x} h = ap Err h.1

module _ {g : ℕ} {s : List ℕ} {d : ℕ} where
  -- two stretches make one, with what it has taken and written counted anew
  pub sum : {from mid to : State} {e v e₁ v₁ : ℕ} (e₂ v₂ : ℕ) → e₂ ≤ e + e₁ → v + v₁ + 32 * e₂ ≤ v₂ + 32 * (e + e₁) → Seg g s d from e v mid → Seg g s d mid e₁ v₁ to
      → Seg g s d from e₂ v₂ to
  sum {from} {mid} {to} {e} {v} {e₁} {v₁} e₂ v₂ h i p q =
      record {
        bytes = p.bytes ++ q.bytes;
        trees = λ ts. q.trees (p.trees ts);
        counted = λ ts z. q.counted (p.trees ts) (p.counted ts z);
        imaged = λ ts. q.imaged (p.trees ts) ∙ ap (λ (l : List ℕ). l ++ q.bytes) (p.imaged ts) ∙ append_assoc (image ts) p.bytes q.bytes;
        run = λ ts xs z l.
            let r = p.run ts xs z l in
            let t = q.run (p.trees ts) r.left (p.counted ts z) r.kept in
            record { left = t.left; kept = t.kept; back = λ o x. r.back o (t.back o x) };
        stored = q.stored ∙ ap (λ (l : List ℕ). sets l mid.written q.bytes) p.stored ∙ sets_append from.out from.written mid.written p.bytes q.bytes p.wrote;
        wrote = omega (arith, p.wrote, q.wrote, length-append p.bytes q.bytes);
        stands = λ z. q.stands (p.stands z);
        onward = omega (arith, h, p.onward, q.onward);
        credit = omega (arith, i, p.credit, q.credit);
      }

  pub then : {from mid to : State} {e v : ℕ} → Seg g s d from e v mid → Seg g s d mid 0 0 to → Seg g s d from e v to
  then {e = e} {v} p q = sum e v (omega arith) (omega arith) p q

  pub onto : {from mid to : State} {e v : ℕ} → Seg g s d from 0 0 mid → Seg g s d mid e v to → Seg g s d from e v to
  onto {e = e} {v} p q = sum e v (omega arith) (omega arith) p q

  -- what is taken pays for what is written
  pub settled : {from to : State} {e v : ℕ} (u : ℕ) → v ≤ 32 * e + u → Seg g s d from e v to → Seg g s d from 0 u to
  settled u h p =
      record {
        bytes = p.bytes;
        trees = p.trees;
        counted = p.counted;
        imaged = p.imaged;
        run = p.run;
        stored = p.stored;
        wrote = p.wrote;
        stands = p.stands;
        onward = omega (arith, p.onward);
        credit = omega (arith, h, p.credit);
      }

  -- a phrase may start where a stretch ends
  pub ready : {from : State} {b : Body} {n e v w : ℕ} {c : Cursor} {o : List ℕ} → Ready s from.cursor from.written → v ≤ 32 * e → Seg g s d from e v (state b n c w o) → Ready s c w
  ready r h p = record { stands = p.stands r.stands; room = omega (arith, r.room, h, p.credit) }

  -- the image stays short
  pub fits : {from : State} {b : Body} {n e v w : ℕ} {c : Cursor} {o : List ℕ} → Ready s from.cursor from.written → v ≤ 1000000 → Seg g s d from e v (state b n c w o) → w < 2 ^ 40
  fits r h p = let i = (p.stands r.stands).within in omega (arith, r.stands.short, r.room, h, p.credit, i)

  -- the number of trees, and the place, written otherwise
  pub count_is : {from : State} {b : Body} {n n₁ e v w : ℕ} {c : Cursor} {o : List ℕ} → n ≡ n₁ → Seg g s d from e v (state b n c w o) → Seg g s d from e v (state b n₁ c w o)
  count_is {from} {b} {e = e} {v} {w} {c} {o} q p = subst (λ (m : ℕ). Seg g s d from e v (state b m c w o)) q p

  pub body_is : {from : State} {b b₁ : Body} {n e v w : ℕ} {c : Cursor} {o : List ℕ} → b ≡ b₁ → Seg g s d from e v (state b n c w o) → Seg g s d from e v (state b₁ n c w o)
  body_is {from} {n = n} {e} {v} {w} {c} {o} q p = subst (λ (x : Body). Seg g s d from e v (state x n c w o)) q p

  -- ── The production of a phrase ──────────────────────────────────────────────────────────────────

  -- the phrase goes on as its production says, whatever lexemes are left
  pub goes : {from : State} {q : Phrase} {n e v w : ℕ} {c : Cursor} {o : List ℕ} (b : Body) → Stands s c → ((xs : List Lexeme) → Sees s c xs → production (power g) g q c.at xs n ≡ b)
      → Seg g s d from e v (state (goto q) n c w o) → Seg g s d from e v (state b n c w o)
  goes {q = q} {n} {c = c} b st f p =
      record {
        bytes = p.bytes;
        trees = p.trees;
        counted = p.counted;
        imaged = p.imaged;
        run = λ ts xs z h.
            let r = p.run ts xs z h in
            let y = sees st refl r.kept in
            let there : Body → Outcome → Type 0 = λ (x : Body) (o : Outcome). Reading (power g) g x (p.trees ts) d c.at r.left o in
            record {
              left = r.left;
              kept = r.kept;
              back = λ o x. r.back o (read_gone (subst⁻¹ (λ (m : ℕ). there (production (power g) g q c.at r.left m) o) (p.counted ts z) (subst⁻¹ (λ (m : Body). there m o) (f r.left y) x)));
            };
        stored = p.stored;
        wrote = p.wrote;
        stands = p.stands;
        onward = p.onward;
        credit = p.credit;
      }

  -- the next lexeme has kind k
  pub known : {from : State} {q : Phrase} {n e v w : ℕ} {c : Cursor} {o : List ℕ} {k : ℕ} (b : Body) → Stands s c → c.kind ≡ k
      → ((xs : List Lexeme) (t : Said) → choose g (rule (power g) q (sight c xs n k t)) ≡ b)
      → Seg g s d from e v (state (goto q) n c w o) → Seg g s d from e v (state b n c w o)
  known {q = q} {n} b st k f p = goes b st (λ xs y. seen (power g) g q n y k refl ∙ f xs (word_of xs)) p

  -- it is a name
  pub called : {from : State} {q : Phrase} {n e v w : ℕ} {c : Cursor} {o : List ℕ} (b : Body) → Stands s c → c.kind ≡ 55
      → ((xs : List Lexeme) → choose g (rule (power g) q (sight c xs n 55 (says (slice c.start c.end s)))) ≡ b)
      → Seg g s d from e v (state (goto q) n c w o) → Seg g s d from e v (state b n c w o)
  called {q = q} {n} {c = c} b st k f p =
      goes b st (λ xs y. seen (power g) g q n y k (name_says k (y.says (λ z. omega (arith, k, z)))) ∙ f xs) p

  -- ── Lexemes ─────────────────────────────────────────────────────────────────────────────────────

  -- a lexeme that is there is taken: of its bytes m are counted
  pub taken_of : {from : State} {b : Body} {n e v k w : ℕ} {c c₁ : Cursor} {o : List ℕ} (m : ℕ) → m ≤ c.end - c.at → Stands s c → Moved s c c₁ → c.kind ≡ k
      → Seg g s d from e v (state (eat k ▸ b) n c w o) → Seg g s d from (e + m) v (state b n c₁ w o)
  taken_of {b = b} {c = c} {c₁ = c₁} m h st mv k p =
      let l = lies st in
      record {
        bytes = p.bytes;
        trees = p.trees;
        counted = p.counted;
        imaged = p.imaged;
        run = λ ts xs z h.
            let r = p.run ts xs z h in
            let y = sees st refl r.kept in
            record {
              left = rest r.left;
              kept = subst⁻¹ (λ (q : ℕ). Left s q (rest r.left)) mv.at y.later;
              back = λ o x. r.back o (eaten (y.kind ∙ k) (subst (λ (q : ℕ). Reading (power g) g b (p.trees ts) d q (rest r.left) o) (mv.at ∙ sym y.stop) x));
            };
        stored = p.stored;
        wrote = p.wrote;
        stands = λ _. mv.stands;
        onward = omega (arith, p.onward, h, l.from, l.on, mv.at);
        credit = omega (arith, p.credit, h, l.from, l.on, mv.at);
      }

  pub taken : {from : State} {b : Body} {n e v k w : ℕ} {c c₁ : Cursor} {o : List ℕ} → 1 < k → Stands s c → Moved s c c₁ → c.kind ≡ k
      → Seg g s d from e v (state (eat k ▸ b) n c w o) → Seg g s d from (e + 1) v (state b n c₁ w o)
  taken h st mv k p = let y = (lies st).some (λ z. omega (arith, h, k, z)) in taken_of 1 (omega (arith, y, (lies st).from)) st mv k p

  -- a leaf is written
  pub leaved : {from : State} {b : Body} {n e v t w w₁ : ℕ} {f : List Field} {c c₁ : Cursor} {o o₁ : List ℕ} → Stands s c → Moved s c c₁ → 1 < c.kind
      → length (entry t f) ≤ 7 + (c.end - c.at) → Wrote o w (entry t f) w₁ o₁
      → Seg g s d from e v (state (leaf t f ▸ b) n c w o) → Seg g s d from (e + 1) (v + 8) (state b (n + 1) c₁ w₁ o₁)
  unfolding size
  leaved {from} {b = b} {n = n} {t = t} {w = w} {f = f} {c = c} st mv k h u p =
      let l = lies st in
      let y = l.some (λ z. omega (arith, k, z)) in
      record {
        bytes = p.bytes ++ entry t f;
        trees = λ ts. p.trees ts ⊕ tree t f none;
        counted = λ ts z. count-row (p.trees ts) (tree t f none) ∙ ap (λ (m : ℕ). m + 1) (p.counted ts z);
        imaged = λ ts. image-leaf t f (p.trees ts) ∙ ap (λ (z : List ℕ). z ++ entry t f) (p.imaged ts) ∙ append_assoc (image ts) p.bytes (entry t f);
        run = λ ts xs z h.
            let r = p.run ts xs z h in
            let y = sees st refl r.kept in
            record {
              left = rest r.left;
              kept = subst⁻¹ (λ (q : ℕ). Left s q (rest r.left)) mv.at y.later;
              back = λ o x. r.back o (leafed (subst (λ (q : ℕ). Reading (power g) g b (p.trees ts ⊕ tree t f none) d q (rest r.left) o) (mv.at ∙ sym y.stop) x));
            };
        stored = u.stored ∙ ap (λ (z : List ℕ). sets z w (entry t f)) p.stored ∙ sets_append from.out from.written w p.bytes (entry t f) p.wrote;
        wrote = omega (arith, p.wrote, u.to, length-append p.bytes (entry t f));
        stands = λ _. mv.stands;
        onward = omega (arith, p.onward, y, l.from, mv.at);
        credit = omega (arith, p.credit, h, u.to, y, l.from, mv.at);
      }

  -- a record is written over all trees: at most m bytes
  pub closed : {from : State} {b : Body} {n e v t w w₁ : ℕ} {f : List Field} {c : Cursor} {o o₁ : List ℕ} (m : ℕ) → length (entry t f) ≤ m → Wrote o w (entry t f) w₁ o₁
      → Seg g s d from e v (state (close t f ▸ b) n c w o) → Seg g s d from e (v + m) (state b 1 c w₁ o₁)
  unfolding size
  closed {from} {t = t} {w = w} {f = f} m h u p =
      record {
        bytes = p.bytes ++ entry t f;
        trees = λ ts. tree t f (p.trees ts);
        counted = λ ts z. refl;
        imaged = λ ts. image_close t f (p.trees ts) ∙ ap (λ (z : List ℕ). z ++ entry t f) (p.imaged ts) ∙ append_assoc (image ts) p.bytes (entry t f);
        run = λ ts xs z h. let r = p.run ts xs z h in record { left = r.left; kept = r.kept; back = λ o x. r.back o (read-closed x) };
        stored = u.stored ∙ ap (λ (z : List ℕ). sets z w (entry t f)) p.stored ∙ sets_append from.out from.written w p.bytes (entry t f) p.wrote;
        wrote = omega (arith, p.wrote, u.to, length-append p.bytes (entry t f));
        stands = p.stands;
        onward = p.onward;
        credit = omega (arith, p.credit, h, u.to);
      }

  -- ── Answers of other functions ──────────────────────────────────────────────────────────────────

  pub led : {mid : State} {b : Body} {n v : ℕ} {o : List ℕ} {a : Answer} {x : Done} → Leads g s d mid v b n a o → a ≡ Ok x → Seg g s d mid 0 v (state b n x.0 x.1 o)
  unfolding Led
  led {mid} {b} {n} {v} {o = o} m q = subst (λ (x : Answer). Led g s d mid v b n x o) q m.led

  -- a function leads on, and owes u
  pub went : {from mid : State} {b : Body} {n e v u : ℕ} {o : List ℕ} {a : Answer} {x : Done} → Leads g s d mid u b n a o → a ≡ Ok x → Seg g s d from e v mid
      → Seg g s d from e (v + u) (state b n x.0 x.1 o)
  went {e = e} {v} {u} m q p = sum e (v + u) (omega arith) (omega arith) p (led m q)

  -- a step is taken by a function
  pub took : {from : State} {st : Step} {b : Body} {n k e v w : ℕ} {c : Cursor} {o o₁ : List ℕ} {a : Answer} {x : Done} → Takes g s st k 0 d c w o a o₁ → a ≡ Ok x
      → Seg g s d from e v (state (st ▸ b) n c w o) → Seg g s d from e v (state b (n + k) x.0 x.1 o₁)
  took {b = b} {n} m q p = then p (led (m.takes b n) q)

  -- by one that owes u
  pub took_owing : {from : State} {st : Step} {b : Body} {n k e v u w : ℕ} {c : Cursor} {o o₁ : List ℕ} {a : Answer} {x : Done} → Takes g s st k u d c w o a o₁ → a ≡ Ok x
      → Seg g s d from e v (state (st ▸ b) n c w o) → Seg g s d from e (v + u) (state b (n + k) x.0 x.1 o₁)
  took_owing {b = b} {n} m q p = went (m.takes b n) q p

  -- a lexeme is taken by `eat`
  pub ate : {from : State} {b : Body} {n k e v w : ℕ} {c : Cursor} {o : List ℕ} {a : Answer} {x : Done} → Eats s k c w a → a ≡ Ok x
      → Seg g s d from e v (state (eat k ▸ b) n c w o) → Seg g s d from (e + 1) v (state b n x.0 x.1 o)
  ate {n = n} {o = o} {x = y} m q p =
      let x = m.moved y.0 y.1 y.2 q in
      let r = count_is (let z : n + 0 ≡ n = omega arith in z) (took (m.eats g d o) q p) in
      record {
        bytes = r.bytes;
        trees = r.trees;
        counted = r.counted;
        imaged = r.imaged;
        run = r.run;
        stored = r.stored;
        wrote = r.wrote;
        stands = r.stands;
        onward = omega (arith, p.onward, x.0);
        credit = omega (arith, p.credit, x.0, x.1);
      }

  pub told : {mid : State} {next : ℕ → Body} {n : ℕ} {o : List ℕ} {a : Answer} {x : Done} → Tells g s d mid next n a o → a ≡ Ok x → Told g s d mid next n (Ok x) o
  told {mid} {next} {n} {o = o} m q = subst (λ (x : Answer). Told g s d mid next n x o) q m.tells

  -- what it tells comes next
  pub follows : {from mid : State} {next : ℕ → Body} {n e v : ℕ} {o : List ℕ} {a : Answer} {x : Done} → Tells g s d mid next n a o → a ≡ Ok x → Seg g s d from e v mid
      → Seg g s d from e v (state (next x.2) n x.0 x.1 o)
  unfolding Told
  follows m q p = then p (told m q).0

  pub told_small : {mid : State} {next : ℕ → Body} {n : ℕ} {o : List ℕ} {a : Answer} {x : Done} → Tells g s d mid next n a o → a ≡ Ok x → x.2 ≤ 4
  unfolding Told
  told_small m q = (told m q).1

  -- a list was read, of as many trees as it tells
  pub counted : {q : Phrase} {v w : ℕ} {c : Cursor} {o o₁ : List ℕ} {a : Answer} {x : Done} → Counts g s q v d c w o a o₁ → a ≡ Ok x
      → Takes g s (sub q) x.2 v d c w o (Ok x) o₁ × (c.at + x.2 ≤ x.0.at)
  unfolding Counted
  counted {q} {v} {w} {c = c} {o = o} {o₁ = o₁} m e = subst (λ (x : Answer). Counted g s q v d c w o x o₁) e m.counts

  -- ── The ways to end ─────────────────────────────────────────────────────────────────────────────

  pub ends : {from : State} {b : Body} {n e v w k : ℕ} {c : Cursor} {o : List ℕ} → v ≤ 32 * e → Seg g s d from e v (state b n c w o) → Leads g s d from 0 b n (reached c w k) o
  unfolding Led
  ends h p = record { led = settled 0 (omega (arith, h)) p }

  -- this one owes u
  pub owes : {from : State} {b : Body} {n e v u w k : ℕ} {c : Cursor} {o : List ℕ} → v ≤ 32 * e + u → Seg g s d from e v (state b n c w o) → Leads g s d from u b n (reached c w k) o
  unfolding Led
  owes {u = u} h p = record { led = settled u h p }

  -- this one tells k
  pub says_on : {from : State} {next : ℕ → Body} {n e v w k : ℕ} {c : Cursor} {o : List ℕ} → k ≤ 4 → v ≤ 32 * e → Seg g s d from e v (state (next k) n c w o)
      → Tells g s d from next n (reached c w k) o
  unfolding Told
  says_on i h p = record { tells = (settled 0 (omega (arith, h)) p, i) }

  pub broke : {from : State} {b : Body} {n u : ℕ} {o : List ℕ} {r : Refusal} {a : Answer} → Breaks g s d from r → a ≡ Err r → Leads g s d from u b n a o
  unfolding Led
  broke {from} {b} {n} {u} {o} h e = record { led = subst⁻¹ (λ (x : Answer). Led g s d from u b n x o) e h }

  pub broke_telling : {from : State} {next : ℕ → Body} {n : ℕ} {o : List ℕ} {r : Refusal} {a : Answer} → Breaks g s d from r → a ≡ Err r → Tells g s d from next n a o
  unfolding Told
  broke_telling {from} {next} {n} {o} h e = record { tells = subst⁻¹ (λ (x : Answer). Told g s d from next n x o) e h }

  pub refused : {mid : State} {b : Body} {n u : ℕ} {o : List ℕ} {r : Refusal} {a : Answer} → Leads g s d mid u b n a o → a ≡ Err r → Breaks g s d mid r
  unfolding Led
  refused {mid} {b} {n} {u} {o} m e = subst (λ (x : Answer). Led g s d mid u b n x o) e m.led

  pub refused_telling : {mid : State} {next : ℕ → Body} {n : ℕ} {o : List ℕ} {r : Refusal} {a : Answer} → Tells g s d mid next n a o → a ≡ Err r → Breaks g s d mid r
  unfolding Told
  refused_telling {mid} {next} {n} {o} m e = subst (λ (x : Answer). Told g s d mid next n x o) e m.tells

  pub breaks_on : {from mid : State} {e v : ℕ} {r : Refusal} → Breaks g s d mid r → Seg g s d from e v mid → Breaks g s d from r
  breaks_on h p =
      record {
        breaks = λ ts xs z l.
            let r = p.run ts xs z l in
            let t = h.breaks (p.trees ts) r.left (p.counted ts z) r.kept in
            record { left = t.left; kept = t.kept; reading = r.back _ t.reading };
        stands = h.stands;
      }

  -- the refusal of a function that leads on, takes a step, tells, or counts, which `?` hands on
  pub leads_broken : {mid : State} {b : Body} {n u : ℕ} {o : List ℕ} {a a′ : Answer} {r : Refusal} → Leads g s d mid u b n a o → a ≡ Err r → a′ ≡ Err r
      → (r : Refusal) × (a′ ≡ Err r) × Breaks g s d mid r
  leads_broken {r = r} m q t = (r, t, refused m q)

  pub tells_broken : {mid : State} {next : ℕ → Body} {n : ℕ} {o : List ℕ} {a a′ : Answer} {r : Refusal} → Tells g s d mid next n a o → a ≡ Err r → a′ ≡ Err r
      → (r : Refusal) × (a′ ≡ Err r) × Breaks g s d mid r
  tells_broken {r = r} m q t = (r, t, refused_telling m q)

  pub takes_broken : {st : Step} {b : Body} {n k u w : ℕ} {c : Cursor} {o o₁ : List ℕ} {a a′ : Answer} {r : Refusal} → Takes g s st k u d c w o a o₁ → a ≡ Err r → a′ ≡ Err r
      → (r : Refusal) × (a′ ≡ Err r) × Breaks g s d (state (st ▸ b) n c w o) r
  takes_broken {b = b} {n = n} m q t = leads_broken (m.takes b n) q t

  pub eats_broken : {b : Body} {n k w : ℕ} {c : Cursor} {o : List ℕ} {a a′ : Answer} {r : Refusal} → Eats s k c w a → a ≡ Err r → a′ ≡ Err r
      → (r : Refusal) × (a′ ≡ Err r) × Breaks g s d (state (eat k ▸ b) n c w o) r
  eats_broken {b = b} {n = n} {o = o} m q t = takes_broken {b = b} {n = n} (m.eats g d o) q t

  pub counts_broken : {q : Phrase} {b : Body} {n v w : ℕ} {c : Cursor} {o o₁ : List ℕ} {a a′ : Answer} {r : Refusal} → Counts g s q v d c w o a o₁ → a ≡ Err r → a′ ≡ Err r
      → (r : Refusal) × (a′ ≡ Err r) × Breaks g s d (state (sub q ▸ b) n c w o) r
  unfolding Counted
  counts_broken {q} {b} {n} {v} {w} {c} {o} {o₁} {a} {r = r} m e t =
      let y : Takes g s (sub q) 0 v d c w o (Err r) o₁ = subst (λ (z : Answer). Counted g s q v d c w o z o₁) e m.counts in
      (r, t, refused (y.takes b n) refl)

  -- and passed up, by a function that leads on or tells
  pub passed : {from mid : State} {b : Body} {n u e v : ℕ} {o : List ℕ} {a : Answer} → ((r : Refusal) × (a ≡ Err r) × Breaks g s d mid r) → Seg g s d from e v mid → Leads g s d from u b n a o
  passed x p = broke (breaks_on x.2 p) x.1

  pub passed_telling : {from mid : State} {next : ℕ → Body} {n e v : ℕ} {o : List ℕ} {a : Answer} → ((r : Refusal) × (a ≡ Err r) × Breaks g s d mid r) → Seg g s d from e v mid
      → Tells g s d from next n a o
  passed_telling x p = broke_telling (breaks_on x.2 p) x.1

  -- a function's answer is this one's
  pub tail : {from mid : State} {b : Body} {n e v u t : ℕ} {o : List ℕ} {a : Answer} → v + u ≤ 32 * e + t → Leads g s d mid u b n a o → Seg g s d from e v mid → Leads g s d from t b n a o
  tail {a = Ok x} h m p = owes h (went m refl p)
  tail {a = Err r} h m p = broke (breaks_on (refused m refl) p) refl

  pub tail_telling : {from mid : State} {next : ℕ → Body} {n e v : ℕ} {o : List ℕ} {a : Answer} → v ≤ 32 * e → Tells g s d mid next n a o → Seg g s d from e v mid → Tells g s d from next n a o
  unfolding Told
  tail_telling {a = Ok x} h m p = says_on (told m refl).1 h (follows m refl p)
  tail_telling {a = Err r} h m p = broke_telling (breaks_on (refused_telling m refl) p) refl

  -- a lexeme that ends the phrase
  pub eat_last : {from : State} {n k e v w : ℕ} {c : Cursor} {o : List ℕ} {a : Answer} → Eats s k c w a → v ≤ 32 * (e + 1) → Seg g s d from e v (state (eat k ▸ end) n c w o) → Leads g s d from 0 end n a o
  eat_last {a = Ok x} m h p = ends h (ate m refl p)
  eat_last {a = Err r} m h p = broke (breaks_on (refused ((m.eats g d _).takes end _) refl) p) refl

  -- a refusal by rule
  pub fails : {from : State} {n e v m x w : ℕ} {c : Cursor} {o : List ℕ} → Stands s c → Seg g s d from e v (state (fail m x) n c w o)
      → Breaks g s d from (record { number = m; place = c; detail = x })
  fails st p = breaks_on (record { breaks = λ ts xs z h. record { left = xs; kept = h; reading = failed }; stands = st }) p

  -- a lexeme that is not there
  pub misses : {from : State} {b : Body} {n e v k w : ℕ} {c : Cursor} {o : List ℕ} → Stands s c → ¬ (c.kind ≡ k) → Seg g s d from e v (state (eat k ▸ b) n c w o)
      → Breaks g s d from (record { number = 5; place = c; detail = k })
  misses st q p =
      breaks_on
      (record { breaks = λ ts xs z h. record { left = xs; kept = h; reading = uneaten (λ y. q (sym (sees st refl h).kind ∙ y)) }; stands = st }) p

  -- the output is as long as it was
  pub same : {from to : State} {e v : ℕ} → Seg g s d from e v to → length to.out ≡ length from.out
  same {from} p = ap length p.stored ∙ length-sets from.out from.written p.bytes

  -- less is left to read
  pub closer : {from : State} {b : Body} {n e v w : ℕ} {c : Cursor} {o : List ℕ} → Ready s from.cursor from.written → 1 ≤ e → Seg g s d from e v (state b n c w o)
      → length s - c.at < length s - from.cursor.at
  closer r h p = let i = (p.stands r.stands).within in omega (arith, h, i, p.onward)

  -- ── What a phrase is to the one that asks for it ────────────────────────────────────────────────

  under : {q : Phrase} {c c₁ : Cursor} {w w₁ k v : ℕ} {o o₁ : List ℕ} → Seg g s d (state (goto q) 0 c w o) 0 v (state end k c₁ w₁ o₁) → (b : Body) (n : ℕ)
      → Seg g s d (state (sub q ▸ b) n c w o) 0 v (state b (n + k) c₁ w₁ o₁)
  unfolding image size
  under {c₁ = c₁} p b n =
      record {
        bytes = p.bytes;
        trees = λ ts. ts ⊕ p.trees none;
        counted = λ ts z. count-row ts (p.trees none) ∙ omega (arith, z, p.counted none refl);
        imaged = λ ts. image-row ts (p.trees none) ∙ ap (λ (l : List ℕ). image ts ++ l) (p.imaged none);
        run = λ ts xs z h.
            let r = p.run none xs refl h in
            record { left = r.left; kept = r.kept; back = λ o x. subbed (ungone (r.back (done (p.trees none) c₁.at r.left) ended)) x };
        stored = p.stored;
        wrote = p.wrote;
        stands = p.stands;
        onward = p.onward;
        credit = p.credit;
      }

  pub as_sub : {q : Phrase} {c : Cursor} {w k v : ℕ} {o o₁ : List ℕ} {a : Answer} → Leads g s d (state (goto q) 0 c w o) v end k a o₁ → Takes g s (sub q) k v d c w o a o₁
  unfolding size Led
  as_sub {a = Ok x} m = record { takes = λ b n. record { led = under (led m refl) b n } }
  as_sub {a = Err r} m =
      let h = refused m refl in
      record {
        takes = λ b n. broke (record {
          breaks = λ ts xs z l. let t = h.breaks none xs refl l in record { left = t.left; kept = t.kept; reading = unsubbed (ungone t.reading) };
          stands = h.stands;
        }) refl;
      }

-- one level deeper
module _ {g : ℕ} {s : List ℕ} {d : ℕ} where
  below : {q : Phrase} {c c₁ : Cursor} {w w₁ k : ℕ} {o o₁ : List ℕ} → Seg g s d (state (goto q) 0 c w o) 0 0 (state end k c₁ w₁ o₁) → (b : Body) (n : ℕ)
      → Seg g s (suc d) (state (deep q ▸ b) n c w o) 0 0 (state b (n + k) c₁ w₁ o₁)
  unfolding image size
  below {c₁ = c₁} p b n =
      record {
        bytes = p.bytes;
        trees = λ ts. ts ⊕ p.trees none;
        counted = λ ts z. count-row ts (p.trees none) ∙ omega (arith, z, p.counted none refl);
        imaged = λ ts. image-row ts (p.trees none) ∙ ap (λ (l : List ℕ). image ts ++ l) (p.imaged none);
        run = λ ts xs z h.
            let r = p.run none xs refl h in
            record { left = r.left; kept = r.kept; back = λ o x. deepened (ungone (r.back (done (p.trees none) c₁.at r.left) ended)) x };
        stored = p.stored;
        wrote = p.wrote;
        stands = p.stands;
        onward = p.onward;
        credit = p.credit;
      }

  deeper : {q : Phrase} {c : Cursor} {w k : ℕ} {o o₁ : List ℕ} {a : Answer} → Leads g s d (state (goto q) 0 c w o) 0 end k a o₁ → Takes g s (deep q) k 0 (suc d) c w o a o₁
  unfolding size Led
  deeper {a = Ok x} m = record { takes = λ b n. record { led = below (led m refl) b n } }
  deeper {a = Err r} m =
      let h = refused m refl in
      record {
        takes = λ b n. broke (record {
          breaks = λ ts xs z l. let t = h.breaks none xs refl l in record { left = t.left; kept = t.kept; reading = undeepened (ungone t.reading) };
          stands = h.stands;
        }) refl;
      }

pub as_deep : {g : ℕ} {s : List ℕ} {d : ℕ} {q : Phrase} {c : Cursor} {w k : ℕ} {o o₁ : List ℕ} {a : Answer} → ¬ (d ≡ 0) → Leads g s (d - 1) (state (goto q) 0 c w o) 0 end k a o₁
    → Takes g s (deep q) k 0 d c w o a o₁
as_deep {g} {s} {d} {q} {c} {w} {k} {o} {o₁} {a} h m = let e : suc (d - 1) ≡ d = omega (arith, h) in subst (λ (n : ℕ). Takes g s (deep q) k 0 n c w o a o₁) e (deeper m)

-- no level is left
pub too_deep : {g : ℕ} {s : List ℕ} {d : ℕ} {q : Phrase} {b : Body} {n w : ℕ} {c : Cursor} {o : List ℕ} → d ≡ 0 → Stands s c
    → Breaks g s d (state (deep q ▸ b) n c w o) (record { number = 11; place = c; detail = 0 })
too_deep {g} {s} {d} {q} {b} {n} {w} {c} {o} e st =
    subst⁻¹ (λ (m : ℕ). Breaks g s m (state (deep q ▸ b) n c w o) (record { number = 11; place = c; detail = 0 })) e
    (record { breaks = λ ts xs z h. record { left = xs; kept = h; reading = read-too-deep }; stands = st })

-- ── Loops ─────────────────────────────────────────────────────────────────────────────────────────

-- a loop that reads on: so far it has come from body b₀ with n₀ trees at c₀ to body b with n trees at c
pub record Turns (g : ℕ) (s : List ℕ) (d : ℕ) (b₀ : Body) (n₀ : ℕ) (c₀ : Cursor) (w₀ : ℕ) (o₀ : List ℕ) (b : Body) (n : ℕ) (c : Cursor) (w : ℕ) (o : List ℕ) : Type 0 where
  pub ok : Ready s c w
  pub seg : Seg g s d (state b₀ n₀ c₀ w₀ o₀) 0 0 (state b n c w o)
  pub same : length o ≡ length o₀

-- it begins
pub begun : {g : ℕ} {s : List ℕ} {d : ℕ} {b : Body} {n : ℕ} {c : Cursor} {w : ℕ} {o : List ℕ} → Ready s c w → Turns g s d b n c w o b n c w o
begun r = record { ok = r; seg = here; same = refl }

-- a turn
pub turned : {g : ℕ} {s : List ℕ} {d : ℕ} {b₀ b b₁ : Body} {n₀ n n₁ e v w₀ w w₁ : ℕ} {c₀ c c₁ : Cursor} {o₀ o o₁ : List ℕ} → Turns g s d b₀ n₀ c₀ w₀ o₀ b n c w o → v ≤ 32 * e
    → Seg g s d (state b n c w o) e v (state b₁ n₁ c₁ w₁ o₁) → Turns g s d b₀ n₀ c₀ w₀ o₀ b₁ n₁ c₁ w₁ o₁
turned h l p = record { ok = ready h.ok l p; seg = then h.seg (settled 0 (omega (arith, l)) p); same = same p ∙ h.same }

-- ── For `eat` ─────────────────────────────────────────────────────────────────────────────────────

pub moved_to : (c : Cursor) {c₀ c₁ : Cursor} {w w₁ k j : ℕ} → reached c₀ w k ≡ reached c₁ w₁ j → c.at < c₀.at → c₀.at ≡ c.end → (c.at < c₁.at) × (w₁ ≡ w) × (c₁.at ≡ c.end)
moved_to c {c₀} {c₁} {w} {w₁} q h e =
    let x : c₀ ≡ c₁ = ap (λ (z : Done). z.0) (one_end q) in
    let y : w ≡ w₁ = ap (λ (z : Done). z.1) (one_end q) in
    (subst (λ (z : Cursor). c.at < z.at) x h, sym y, subst (λ (z : Cursor). z.at ≡ c.end) x e)

pub not_done : {r : Refusal} {c : Cursor} {w k : ℕ} → Err r ≡ reached c w k → ⊥
not_done e = let z : ◌≡◌ {A = ℕ} 0 1 = cc in omega arith

-- ── Steps that surely take a byte ─────────────────────────────────────────────────────────────────

module _ {g : ℕ} {s : List ℕ} {st : Step} {k v d w : ℕ} {c : Cursor} {o o₁ : List ℕ} where
  pub taking : {c₁ : Cursor} {w₁ j : ℕ} → Takes g s st k v d c w o (reached c₁ w₁ j) o₁ → c.at < c₁.at → TakesSome g s st k v d c w o (reached c₁ w₁ j) o₁
  taking {c₁} m h = record { takes = m; some = λ c₂ w₂ n q. let e : c₁ ≡ c₂ = ap (λ (x : Done). x.0) (one_end q) in subst (λ (x : Cursor). c.at < x.at) e h }

  pub taking_none : {a : Answer} {r : Refusal} → a ≡ Err r → Takes g s st k v d c w o a o₁ → TakesSome g s st k v d c w o a o₁
  taking_none e m = record { takes = m; some = λ c₂ w₂ n q. absurd (not_done (sym e ∙ q)) }

-- past a lexeme
pub beyond : {s : List ℕ} {c c₁ : Cursor} → 1 < c.kind → Stands s c → Moved s c c₁ → c.at < c₁.at
beyond k st mv = let l = lies st in let y = l.some (λ z. omega (arith, k, z)) in omega (arith, y, l.from, mv.at)
