-- What an accepted read leaves in the history: the object closed last reads as the table's definition says, the open ones are as before,
-- and ids told before stand for the same readings.
use mathlib.Core.Path.{◌≡◌, refl, sym, ap, subst, ◌∙◌}
use Prim.Native.Nat.{ℕ, zero, suc, ◌+◌, ◌≤◌}
use mathlib.Core.List.{List, [], ◌∷◌, ◌++◌, append_assoc, append-nil}
use mathlib.Core.Bool.{Bool, true, false}
use native.Mathlib.Omega.{arith}
use borrow.Author.Tests.{leb-true, eqb-false, ne_eqb}
use lib.ListN.{length}
use lib.Dec.{eqb, leb}
use Rattle.lists.specs.Lists.{pick, part}
use Rattle.lists.proofs.Runs.{length_part}
use Rattle.answer.specs.Number.{number}
use Rattle.model.specs.Judge.{Verdict, accepted, refused}
use Rattle.model_orders.specs.Reading.{Reading, bytes, bytes_of, reading_size}
use Rattle.model.specs.Session.{Needs, session_call, put_call, link_call, close_call}
use Rattle.model.specs.History.{History, innermost_reading, id_of, judged, accept, after, after_all, Starts, NoStart, id_told, expected, put_on, link_on}
use Rattle.model.proofs.Verdicts.{refused-number}
use Rattle.model.proofs.Closings.{Known, known-equal, known-closed, known-all}
use Rattle.steps.specs.Runs.{StoreCall, as_call}
use Rattle.steps.specs.Runs as calls
use Rattle.steps.specs.Mirrored.{Step, by_history}
use Rattle.gsub.specs.declared.Kind.{Kind}
use Rattle.gsub.specs.declared.Field.{Field}
use Rattle.gsub.specs.Tables.{fields_at}
use Rattle.gsub.specs.Ops.{Act, keep, follow, refuse, value_at, act, Op, begin, link, end, stop, act_ops, fields_ops, table_ops, Outcome, outcome, go_on, perform}
use Rattle.gsub.specs.Meaning.{act_bytes, own_bytes, act_reading, fields_reading, table_reading}
use Rattle.gsub.specs.Promote.{Mode, plain, bytes_in, place_in, child_mode, child_place, mode_ops, mode_reading}
use Rattle.gsub.proofs.Plain.{plain-ops, plain-reading}
use Rattle.gsub.proofs.Grows.{on_bytes, on_same, on-whole, on-put, on-link, size-put, size-link}

-- a field that is not refused lies in the slice
pub act-room : (b : List ℕ) (at : ℕ) (f : Field) → (act b at f ≡ refuse → ⊥) → at + f.width ≤ length b
unfolding act
act-room b at f h = go (leb (at + f.width) (length b)) refl
  where
    go : (t : Bool) → leb (at + f.width) (length b) ≡ t → at + f.width ≤ length b
    go true e = leb-true (at + f.width) (length b) e
    go false e = absurd (h (rw e))

-- an accepted call goes on
pub goes_on : {S : Type 0} (t : Step S) (o : Outcome S) → (go_on t o).number ≡ 0 → go_on t o ≡ o
goes_on t o z = go (eqb t.number 0) refl z
  where
    go : (x : Bool) → eqb t.number 0 ≡ x → (pick x o (outcome t.number 0 0 t.next)).number ≡ 0 → pick x o (outcome t.number 0 0 t.next) ≡ o
    go true e z = refl
    go false e z = absurd (eqb-false t.number 0 e z)

-- in stores of these lengths
module _ (n : Needs) (store records : ℕ) where
  abbrev call : StoreCall → History → Step History
  call = by_history n store records

  -- ---- one call

  record Taken (c : StoreCall) (h : History) (later : Outcome History) : Type 0 where
    goes : go_on (call c h) later ≡ later
    left : (call c h).next ≡ accept (as_call store records c) h
    told : (call c h).id ≡ id_told (as_call store records c) h

  taken : (c : StoreCall) (h : History) (later : Outcome History) → (go_on (call c h) later).number ≡ 0 → Taken c h later
  unfolding expected after
  taken c h later z = go (judged n (as_call store records c) h) refl
    where
      go : (v : Verdict) → judged n (as_call store records c) h ≡ v → Taken c h later
      go accepted e = record { goes = goes_on (call c h) later z; left = rw e; told = rw e }
      go (refused why) e = absurd (omega (arith, refused-number why, rw (e, ne_eqb (number why) 0 (λ q. omega (arith, refused-number why))) at z))

  -- ---- a table, and some of its fields

  -- ids that stood for readings stand for them still
  record Keeps (h k : History) : Type 0 where
    known : (q : Reading) (j : ℕ) → Known q j h.closed → Known q j k.closed

  -- after a table that reads r the other ops are made, with its id
  record Read (r : Reading) (rest : List Op) (h : History) (o : Outcome History) : Type 0 where
    id : ℕ
    next : History
    goes : o ≡ perform call rest id next
    opens : next.opens ≡ h.opens
    here : Known r id next.closed
    keeps : Keeps h next

  -- ops that write a table which reads r
  pub record ReadsAs (ops : List Op) (r : Reading) : Type 0 where
    read : (rest : List Op) (i : ℕ) (h : History) → (perform call (ops ++ rest) i h).number ≡ 0 → Read r rest h (perform call (ops ++ rest) i h)

  -- after fields that make the innermost open object r
  record Grown (r : Reading) (os : List Reading) (rest : List Op) (h : History) (o : Outcome History) : Type 0 where
    id : ℕ
    next : History
    goes : o ≡ perform call rest id next
    opens : next.opens ≡ r ∷ os
    keeps : Keeps h next

  keeps_then : {h k l : History} → Keeps h k → Keeps k l → Keeps h l
  keeps_then a b = record { known = λ q j z. b.known q j (a.known q j z) }

  kept : (c : StoreCall) (h : History) → (Starts n (session_call (as_call store records c)) h → ⊥) → Keeps h (call c h).next
  unfolding NoStart after_all
  kept c h s = record { known = λ q j z. known-all n (session_call (as_call store records c) ∷ []) h (s, tt) z }

  -- ---- each op on an open object x, whose outer ones are os

  module _ (x : Reading) (os : List Reading) (h : History) (e : h.opens ≡ x ∷ os) where
    put-opens : (vs : List ℕ) → (accept (put_call vs) h).opens ≡ put_on vs x ∷ os
    unfolding accept
    put-opens vs = rw e

    link-opens : (w i : ℕ) {c : Reading} → Known c i h.closed → (accept (link_call w i 0) h).opens ≡ link_on w 0 c x ∷ os
    unfolding accept
    link-opens w i k = rw (e, known-equal k)

    close-opens : (accept close_call h).opens ≡ os
    unfolding accept
    close-opens = rw e

    close-known : Known x (id_of h) (accept close_call h).closed
    unfolding accept
    close-known = subst (λ r. Known r (id_of h) (accept close_call h).closed) (ap innermost_reading e) (known-closed h)

  -- ---- fields from a on of a table at p of b, given what its children do, whatever ops follow

  record Children (ops : ℕ → Kind → ℕ → List Op) (rd : ℕ → Kind → ℕ → Reading) : Type 0 where
    read : (a : ℕ) (k : Kind) (q : ℕ) → ReadsAs (ops a k q) (rd a k q)

  module _ (ops : ℕ → Kind → ℕ → List Op) (rd : ℕ → Kind → ℕ → Reading) (b : List ℕ) (p : ℕ) where
    abbrev grown_by : ℕ → List Field → Reading → Reading
    grown_by a fs x = on_bytes x (λ o. fields_reading rd b p a fs (o ++ own_bytes b p a fs))

    record FieldsRead (a : ℕ) (fs : List Field) : Type 0 where
      read : (x : Reading) (os : List Reading) (rest : List Op) (i : ℕ) (h : History) → h.opens ≡ x ∷ os → reading_size x ≡ a
          → (perform call (fields_ops ops b p a fs ++ rest) i h).number ≡ 0 → Grown (grown_by a fs x) os rest h (perform call (fields_ops ops b p a fs ++ rest) i h)

    no_fields : (a : ℕ) → FieldsRead a []
    unfolding fields_ops fields_reading own_bytes
    no_fields a = record {
      read = λ x os rest i h e s z. record { id = i; next = h; goes = refl; opens = rw (← on-whole x) e; keeps = record { known = λ q j k. k } };
    }

    -- one field more in front, of width w, which is judged y
    module _ (a w : ℕ) (fs : List Field) (later : FieldsRead (a + w) fs) where
      abbrev ops_by : Act → List Op → List Op
      ops_by y rest = (act_ops (ops a) b p a w y ++ fields_ops ops b p (a + w) fs) ++ rest

      abbrev read_by : Act → Reading → Reading
      read_by y x = on_bytes x (λ o. act_reading (rd a) b p a w y (fields_reading rd b p (a + w) fs (o ++ (act_bytes b (p + a) w y ++ own_bytes b p (a + w) fs))))

      record FieldRead (y : Act) : Type 0 where
        read : (x : Reading) (os : List Reading) (rest : List Op) (i : ℕ) (h : History) → h.opens ≡ x ∷ os → reading_size x ≡ a
            → (perform call (ops_by y rest) i h).number ≡ 0 → Grown (read_by y x) os rest h (perform call (ops_by y rest) i h)

      abbrev vs : List ℕ
      vs = part (p + a) (p + a + w) b

      keep-read : p + a + w ≤ length b → FieldRead keep
      unfolding act_ops act_reading act_bytes perform as_call Starts id_told
      keep-read room = record {
        read = λ x os rest i h e s z.
            let t = taken (calls.put vs) h _ z in
            let k = (call (calls.put vs) h).next in
            let o : k.opens ≡ put_on vs x ∷ os = ap (λ (l : History). l.opens) t.left ∙ put-opens x os h e vs in
            let g = later.read (put_on vs x) os rest i k o (omega (arith, size-put vs x, length_part (p + a) (p + a + w) b room)) (rw t.goes at z) in
            record {
              id = g.id;
              next = g.next;
              goes = t.goes ∙ g.goes;
              opens = g.opens ∙ ap (λ r. r ∷ os) (on-put vs x _ ∙ on_same x (λ o. rw append_assoc));
              keeps = keeps_then (kept (calls.put vs) h (λ z. z)) g.keeps;
            };
      }

      follow-read : Children ops rd → (k : Kind) → FieldRead (follow k)
      unfolding act_ops act_reading act_bytes perform as_call Starts id_told
      follow-read below k = record {
        read = λ x os rest i h e s z.
            let q = p + value_at b (p + a) w in
            let others = fields_ops ops b p (a + w) fs ++ rest in
            let joined : ops_by (follow k) rest ≡ ops a k q ++ (link w ∷ others) = simp append_assoc in
            let c = (below.read a k q).read (link w ∷ others) i h (rw joined at z) in
            let j = c.id in
            let z₁ : (perform call (link w ∷ others) j c.next).number ≡ 0 = rw (joined, c.goes) at z in
            let t = taken (calls.link w j 0) c.next _ z₁ in
            let l = (call (calls.link w j 0) c.next).next in
            let o : l.opens ≡ link_on w 0 (rd a k q) x ∷ os = ap (λ (m : History). m.opens) t.left ∙ link-opens x os c.next (c.opens ∙ e) w j c.here in
            let g = later.read (link_on w 0 (rd a k q) x) os rest j l o (omega (arith, size-link w 0 (rd a k q) x)) (rw t.goes at z₁) in
            record {
              id = g.id;
              next = g.next;
              goes = ap (λ m. perform call m i h) joined ∙ c.goes ∙ t.goes ∙ g.goes;
              opens = g.opens ∙ ap (λ r. r ∷ os) (on-link w 0 (rd a k q) x _ ∙ on_same x (λ o. rw (s, append_assoc)));
              keeps = keeps_then c.keeps (keeps_then (kept (calls.link w j 0) c.next (λ z. z)) g.keeps);
            };
      }

      refuse-read : FieldRead refuse
      unfolding act_ops perform
      refuse-read = record { read = λ x os rest i h e s z. absurd (omega arith) }

    field-read : (a : ℕ) (f : Field) (fs : List Field) → Children ops rd → (later : FieldsRead (a + f.width) fs) → (y : Act) → act b (p + a) f ≡ y → FieldRead a f.width fs later y
    field-read a f fs below later keep e = keep-read a f.width fs later (act-room b (p + a) f (λ r. no_both e r))
      where
        no_both : act b (p + a) f ≡ keep → act b (p + a) f ≡ refuse → ⊥
        no_both u v = let z : ◌≡◌ {A = ℕ} 0 1 = cc in omega arith
    field-read a f fs below later (follow k) e = follow-read a f.width fs later below k
    field-read a f fs below later refuse e = refuse-read a f.width fs later

    fields_read : Children ops rd → (fs : List Field) (a : ℕ) → FieldsRead a fs
    unfolding fields_ops fields_reading own_bytes
    fields_read below [] a = no_fields a
    fields_read below (f ∷ fs) a = record { read = (field-read a f fs below (fields_read below fs (a + f.width)) (act b (p + a) f) refl).read }

  -- ---- a whole table

  -- fields that made it, and then its close
  close-read : (r : Reading) (rest : List Op) (h k : History) (o : Outcome History) → Keeps h k → Grown r h.opens (end ∷ rest) k o → o.number ≡ 0 → Read r rest h o
  unfolding perform as_call Starts id_told
  close-read r rest h k o kp g z =
      let t = taken calls.close g.next _ (rw g.goes at z) in
      let left = t.left in
      record {
        id = (call calls.close g.next).id;
        next = (call calls.close g.next).next;
        goes = g.goes ∙ t.goes;
        opens = ap (λ (m : History). m.opens) left ∙ close-opens r h.opens g.next g.opens;
        here = subst (λ (m : History). Known r (call calls.close g.next).id m.closed) (sym left)
            (subst (λ j. Known r j (accept close_call g.next).closed) (sym t.told) (close-known r h.opens g.next g.opens));
        keeps = keeps_then kp (keeps_then g.keeps (kept calls.close g.next (λ z. z)));
      }

  -- one that begins is open with no bytes
  module _ (ops : ℕ → Kind → ℕ → List Op) (rd : ℕ → Kind → ℕ → Reading) (below : Children ops rd) (b : List ℕ) (p : ℕ) (fs : List Field) where
    abbrev within : List Op → List Op
    within rest = begin ∷ ((fields_ops ops b p 0 fs ++ (end ∷ [])) ++ rest)

    begin-read : (rest : List Op) (i : ℕ) (h : History) → (perform call (within rest) i h).number ≡ 0
        → Read (fields_reading rd b p 0 fs (own_bytes b p 0 fs)) rest h (perform call (within rest) i h)
    unfolding perform as_call Starts accept bytes_of on_bytes
    begin-read rest i h z =
        let joined : (fields_ops ops b p 0 fs ++ (end ∷ [])) ++ rest ≡ fields_ops ops b p 0 fs ++ (end ∷ rest) = simp append_assoc in
        let t = taken calls.open' h _ z in
        let k = (call calls.open' h).next in
        let z₁ = rw (t.goes, joined) at z in
        let g = (fields_read ops rd b p below fs 0).read (bytes []) h.opens (end ∷ rest) i k (ap (λ (m : History). m.opens) t.left) refl z₁ in
        rw (t.goes, joined) (close-read _ rest h k _ (kept calls.open' h (λ z. z)) g z₁)

  stopped : (p : ℕ) (rest : List Op) (i : ℕ) (h : History) → (perform call (stop p ∷ rest) i h).number ≡ 0 → ⊥
  unfolding perform
  stopped p rest i h z = omega arith

  pub mode-reads : (d : ℕ) (b : List ℕ) (m : Mode) (k : Kind) (p : ℕ) → ReadsAs (mode_ops d b m k p) (mode_reading d b m k p)
  unfolding mode_ops mode_reading
  mode-reads zero b m k p = record { read = λ rest i h z. absurd (stopped p rest i h z) }
  mode-reads (suc d) b m k p = record {
    read = begin-read _ _ (record { read = λ a j q. mode-reads d b (child_mode b m p a j q) j (child_place m p q) }) (bytes_in b m p) (place_in m p) (fields_at (bytes_in b m p) k (place_in m p));
  }

  pub table-reads : (d : ℕ) (b : List ℕ) (k : Kind) (p : ℕ) → ReadsAs (table_ops d b k p) (table_reading d b k p)
  table-reads d b k p = rw (plain-ops d b, plain-reading d b) at (mode-reads d b plain k p)

  -- ---- a table alone, and all that lies under it

  pub record Whole (r : Reading) (h : History) (o : Outcome History) : Type 0 where
    pub opens : o.next.opens ≡ h.opens
    pub known : Known r o.id o.next.closed

  pub whole-read : {ops : List Op} {r : Reading} → ReadsAs ops r → (i : ℕ) (h : History) → (perform call ops i h).number ≡ 0 → Whole r h (perform call ops i h)
  unfolding perform
  whole-read {ops} {r} f i h z =
      let e : perform call (ops ++ []) i h ≡ perform call ops i h = ap (λ o. perform call o i h) (append-nil ops) in
      let t = f.read [] i h (ap (λ o. o.number) e ∙ z) in
      subst (λ o. Whole r h o) (sym t.goes ∙ e) (record { opens = t.opens; known = t.here })
