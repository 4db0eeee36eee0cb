-- Where a walk that began after the flag came to the flagged leaf, the edge by which it came was
-- read as flagged.
use Rattle.std.proofs.Common.{◌≡◌, ◌≢◌, ℕ, ◌⊎◌, inl, inr, eqb, ◌==◌, Bool, true, false, cond, List, [], ◌∷◌, refl, sym, ap, subst, ◌∙◌, arith, true≢false}
use Rattle.std.specs.Prelude.{Option, Some, None}
use Rattle.std.specs.List.{list_any}
use Rattle.std.proofs.lemmas.Bool.{cond_both, cond-true, eqb-true, eq-eqb, and_parts, and_from}
use Rattle.std.proofs.lemmas.Option.{none-some, same_Some}
use Rattle.nm_edge.specs.Edges.{Edge, is_to}
use Rattle.nm_edge.specs.declared.edge.Side.{Side}
use Rattle.nm_edge.specs.declared.edge.Side.TheVariants.{Left}
use Rattle.nm_edge.specs.declared.node.NodeId.{NodeId}
use Rattle.nm_model.specs.declared.event.Field.{Field}
use Rattle.nm_model.specs.declared.event.Field.TheVariants.{Edge as EdgeOn}
use Rattle.nm_model.specs.declared.event.Event.{Event}
use Rattle.nm_model.specs.declared.event.Event.TheVariants.{Look, Flag}
use Rattle.nm_model.specs.declared.reply.Reply.{Reply}
use Rattle.nm_model.specs.declared.reply.Reply.TheVariants.{EdgeIs, Flagged, Lost}
use Rattle.nm_model.specs.declared.arrivals.Call.{Call}
use Rattle.nm_model.specs.declared.arrivals.Arrival.{Arrival}
use Rattle.nm_model.specs.Memory.{Memory, edge, child, put_edge, named}
use Rattle.nm_model.specs.Knowledge.{Knowledge, knows, is_private, read}
use Rattle.nm_model.specs.Learning.{learn, look_known, look_private, flag_to}
use Rattle.nm_model.specs.Paths.{follow}
use Rattle.nm_model.specs.Step.{reply, write}
use Rattle.nm_model.specs.Runs.{State, of, reply_of, applied}
use Rattle.nm_model.specs.Searches.{Search, is_first, is_side, goes_on, turns, walked, look_for, later_walked}
use Rattle.nm_model.proofs.Lists.{any_at}
use Rattle.nm_laws.proofs.Steps.{Allowed}
use Rattle.nm_laws.proofs.Trees.{same_side-refl}
use Rattle.nm_laws.proofs.Views.{read_after}
use Rattle.nm_laws.proofs.TreeSlots.{is_to-true}
use Rattle.nm_laws.proofs.TreeSteps.{Lawful, flag_checked}
use Rattle.nm_order.proofs.OrderedChanges.{off_known, off_root}
use Rattle.nm_order.proofs.OrderedSteps.{looked_known, known_not_private, low_not_private}
use Rattle.nm_order.proofs.KnowledgeStays.{Stays, Answers, answers}
use Rattle.nm_order.proofs.CallWalks.{own_knows, memory_after, look_writes_nothing}
use Rattle.nm_order.proofs.FlaggedPaths.{LeadsFlagged}
use Rattle.nm_order.proofs.FlaggedSteps.{leads_flagged_still}
use Rattle.nm_order.proofs.FlaggedLeaves.{AllPlaces, places_walked, flag_leads}

-- an arrival after the flag of slot n: from its slot flagged edges alone lead to n, and where it is
-- n, it came by an edge known flagged
pub record LedFlagged (m : Memory) (k : Knowledge) (n x p : ℕ) (d : Side) : Type 0 where
  pub known : knows k x ≡ true
  pub leads : LeadsFlagged m n x
  pub here : x ≡ n → (e : Edge) × (read k p d ≡ Some e) × (e.flag ≡ true) × (e.slot ≡ n)

pub record LeafFlagged (m : Memory) (k : Knowledge) (ws : List Arrival) (n : ℕ) : Type 0 where
  pub known : knows k n ≡ true
  pub root : LeadsFlagged m n 1
  pub places : AllPlaces (LedFlagged m k n) ws

pub record FlagKept (m : Memory) (k : Knowledge) (S : Search) : Type 0 where
  pub none : S.flagged ≡ None → S.later ≡ []
  pub some : (n : NodeId) → S.flagged ≡ Some n → LeafFlagged m k S.later n.slot

pub unflagged : (m : Memory) (k : Knowledge) (S : Search) → S.flagged ≡ None → S.later ≡ [] → FlagKept m k S
unflagged m k S none later = record { none = λ _. later; some = λ n is. absurd (none-some n (sym none ∙ is)) }

-- ---- what another event leaves

module _ (s : State) (h : ℕ → ℕ) (law : Lawful s h) (w : ℕ) (e : Event) (ok : Allowed s w e) (u : ℕ) (l : Knowledge)
    (stays : Stays s.memory (of s u) l) where
  led_still : (n x : ℕ) → knows (of s u) n ≡ true → ((y : ℕ) → is_private (of s w) y ≡ true → (q : List Side)
      → follow (child s.memory) x q ≡ y → ⊥) → LeadsFlagged s.memory n x → LeadsFlagged (applied s w e).memory n x
  led_still n x known never good = rw (memory_after s w e) (leads_flagged_still s h law w n x
      (λ z. (let r = law.tree.known u n known in absurd (omega arith)))
      (λ y own at. off_known s h law u n w y known own [] at) never e ok good)

  place_still : (n x p : ℕ) (d : Side) → knows (of s u) n ≡ true → LedFlagged s.memory (of s u) n x p d
      → LedFlagged (applied s w e).memory l n x p d
  place_still n x p d known led = record {
    known = stays.known x led.known;
    leads = led_still n x known (λ y own q. off_known s h law u x w y led.known own q) led.leads;
    here = λ at. again (led.here at);
  }
    where
      again : (e : Edge) × (read (of s u) p d ≡ Some e) × (e.flag ≡ true) × (e.slot ≡ n)
          → (e : Edge) × (read l p d ≡ Some e) × (e.flag ≡ true) × (e.slot ≡ n)
      again r =
          let is = law.tree.flag_read u p d r.0 r.1 r.2 in
          elim (stays.reads p d) [
            | inl same ↦ (r.0, same ∙ r.1, r.2, r.3)
            | inr new ↦ (new.0, new.1, new.2.flag is.0, new.2.slot ∙ (is.1 ∙ r.3))
          ]

  leaf_still : (later : List Arrival) (n : ℕ) → LeafFlagged s.memory (of s u) later n
      → LeafFlagged (applied s w e).memory l later n
  leaf_still later n k = record {
    known = stays.known n k.known;
    root = led_still n 1 k.known (λ y own q. off_root s h law w y own q) k.root;
    places = λ i a at. place_still n a.slot a.parent a.side k.known (k.places i a at);
  }

  pub kept_still : (S T : Search) → T.flagged ≡ S.flagged → T.later ≡ S.later → FlagKept s.memory (of s u) S
      → FlagKept (applied s w e).memory l T
  kept_still S T flagged later k = record {
    none = λ is. later ∙ k.none (sym flagged ∙ is);
    some = λ n is. rw later (leaf_still S.later n.slot (k.some n (sym flagged ∙ is)));
  }

-- ---- a flag that is won

pub won_flag_shown : (s : State) (w p leaf : ℕ) (d : Side) (n : NodeId) → reply_of s w (Flag p d leaf) ≡ Flagged n
    → (is_to (edge s.memory p d) leaf ≡ true) × (named s.memory leaf ≡ n)
unfolding reply
won_flag_shown s w p leaf d n is = go (is_to (edge s.memory p d) leaf) refl is
  where
    go : (b : Bool) → is_to (edge s.memory p d) leaf ≡ b
        → cond b (Flagged (named s.memory leaf)) (Lost (edge s.memory p d)) ≡ Flagged n
        → (is_to (edge s.memory p d) leaf ≡ true) × (named s.memory leaf ≡ n)
    go true won e = (won, cc)
    go false won e = absurd (differ e)
      where
        differ : Lost (edge s.memory p d) ≡ Flagged n → ⊥
        differ e = cc

flag_written : (s : State) (w p leaf : ℕ) (d : Side) → is_to (edge s.memory p d) leaf ≡ true
    → (applied s w (Flag p d leaf)).memory ≡ put_edge s.memory p d (flag_to leaf)
unfolding applied write
flag_written s w p leaf d won = cond-true (is_to (edge s.memory p d) leaf) (put_edge s.memory p d (flag_to leaf))
    s.memory won

pub new_flag : (s : State) (h : ℕ → ℕ) (law : Lawful s h) (w p leaf : ℕ) (d : Side) (n : NodeId)
    → Allowed s w (Flag p d leaf) → reply_of s w (Flag p d leaf) ≡ Flagged n → (l : Knowledge)
    → Stays s.memory (of s w) l → LeafFlagged (applied s w (Flag p d leaf)).memory l [] n.slot
new_flag s h law w p leaf d n ok is l stays =
    let found = won_flag_shown s w p leaf d n is in
    let asks = flag_checked s w p d leaf ok.event in
    let high = asks.high in
    let range = law.tree.known w p asks.known in
    let size = law.roomy.nodes in
    rw (← found.1, flag_written s w p leaf d found.0) (record {
      known = stays.known leaf asks.held;
      root = flag_leads s h law w p d leaf (omega arith) asks.known (λ z. omega arith)
          (is_to-true (edge s.memory p d) leaf found.0);
      places = λ i a at. absurd (none-some a at);
    })

-- ---- a look

-- a look at an edge of a slot that is not private tells the edge, and its slot is known
looked_read : (s : State) (w x : ℕ) (d : Side) → is_private (of s w) x ≡ false
    → read (learn w (of s w) (Look x (EdgeOn d)) (reply_of s w (Look x (EdgeOn d)))) x d ≡ Some (edge s.memory x d)
unfolding reply learn
looked_read s w x d out = cond_both (is_private (of s w) x)
    (look_private (of s w) x (EdgeOn d) (EdgeIs (edge s.memory x d)))
    (look_known (of s w) x (EdgeOn d) (EdgeIs (edge s.memory x d))) (λ l. read l x d ≡ Some (edge s.memory x d))
    (λ own. absurd (true≢false (sym own ∙ out)))
    (λ _. read_after (of s w) x d (edge s.memory x d) x d
    ∙ ap (λ (b : Bool). cond b (Some (edge s.memory x d)) (read (of s w) x d))
    (and_from (eqb x x) _ (eq-eqb x x refl) (same_side-refl d)))

module _ (s : State) (h : ℕ → ℕ) (law : Lawful s h) (w x : ℕ) (f : Field) (ok : Allowed s w (Look x f))
    (stays : Stays s.memory (of s w) (of (applied s w (Look x f)) w)) where
  l : Knowledge
  l = of (applied s w (Look x f)) w

  -- where walks after the flag go on by a look
  place_new : (k n : ℕ) (ws : List Arrival) → LeafFlagged s.memory (of s w) ws n → (d : Side) (e : Edge)
      → f ≡ EdgeOn d → reply_of s w (Look x f) ≡ EdgeIs e → e.slot ≢ 0
      → (is_first x d ≡ true) ⊎ (list_any (goes_on k x d) ws ≡ true)
      → LedFlagged s.memory (of (applied s w (Look x f)) w) n e.slot x d
  place_new k n ws leaf d e is_edge is some goes = record {
    known = known_now;
    leads = subst (λ (y : ℕ). LeadsFlagged s.memory n y) (sym slot) (λ path g. (from goes).0 (d ∷ path) g);
    here = λ at. (edge s.memory x d, read_now, (from goes).0 [] d (sym slot ∙ at), sym slot ∙ at);
  }
    where
      -- the slot whose edge is looked at: known, not private, and led to by the law
      from : (is_first x d ≡ true) ⊎ (list_any (goes_on k x d) ws ≡ true)
          → LeadsFlagged s.memory n x × (is_private (of s w) x ≡ false)
      from (inl root) =
          let parts = and_parts (x == 2) (is_side d Left) root in
          let two : x ≡ 2 = eqb-true x 2 parts.0 in (
            subst (λ (y : ℕ). LeadsFlagged s.memory n y) (law.tree.root_left ∙ sym two)
                (λ path g. leaf.root (Left ∷ path) g),
            low_not_private s h law w x (omega arith),
          )
      from (inr any) =
          let b = any_at (goes_on k x d) ws any in
          let at : b.1.slot ≡ x = eqb-true b.1.slot x (and_parts (b.1.slot == x) (turns k b.1.key d) b.3).0 in
          let p = leaf.places b.0 b.1 b.2 in (
            subst (λ (y : ℕ). LeadsFlagged s.memory n y) at p.leads,
            known_not_private s h law w x (subst (λ (y : ℕ). knows (of s w) y ≡ true) at p.known),
          )

      as_edge : (g : Field) → g ≡ EdgeOn d → Answers s.memory (Look x g) (reply_of s w (Look x g))
          → reply_of s w (Look x g) ≡ EdgeIs e → e ≡ edge s.memory x d
      as_edge g at told is = subst (λ (r : Reply). Answers s.memory (Look x (EdgeOn d)) r)
          (subst (λ (g : Field). reply_of s w (Look x g) ≡ EdgeIs e) at is)
          (subst (λ (g : Field). Answers s.memory (Look x g) (reply_of s w (Look x g))) at told)

      edge_is : e ≡ edge s.memory x d
      edge_is = as_edge f is_edge (answers s h law w (Look x f) ok) is

      slot : e.slot ≡ child s.memory x d
      slot = ap (λ (y : Edge). y.slot) edge_is

      learned : of (applied s w (Look x f)) w ≡ learn w (of s w) (Look x (EdgeOn d)) (reply_of s w (Look x (EdgeOn d)))
      learned = own_knows s h law w (Look x f) ok ∙ ap
          (λ (g : Field). learn w (of s w) (Look x g) (reply_of s w (Look x g))) is_edge

      read_now : read (of (applied s w (Look x f)) w) x d ≡ Some (edge s.memory x d)
      read_now = ap (λ (k : Knowledge). read k x d) learned ∙ looked_read s w x d (from goes).1

      known_now : knows (of (applied s w (Look x f)) w) e.slot ≡ true
      known_now = ap (λ (k : Knowledge). knows k e.slot) learned
          ∙ (ap (knows (learn w (of s w) (Look x (EdgeOn d)) (reply_of s w (Look x (EdgeOn d))))) slot
          ∙ looked_known s h law w x d (from goes).1 (λ z. some (slot ∙ z)))

  pub look_flags : (S : Search) → FlagKept s.memory (of s w) S
      → FlagKept (applied s w (Look x f)).memory (of (applied s w (Look x f)) w)
      (look_for S S.call x f (reply_of s w (Look x f)))
  look_flags S kept = by S.call
    where
      by : (o : Option Call) → FlagKept (applied s w (Look x f)).memory (of (applied s w (Look x f)) w)
          (look_for S o x f (reply_of s w (Look x f)))
      by None = kept_still s h law w (Look x f) ok w (of (applied s w (Look x f)) w) stays S S refl refl kept
      by (Some c) = at S.flagged refl
        where
          at : (o : Option NodeId) → S.flagged ≡ o → FlagKept (applied s w (Look x f)).memory
              (of (applied s w (Look x f)) w) (look_for S (Some c) x f (reply_of s w (Look x f)))
          at None is = unflagged (applied s w (Look x f)).memory (of (applied s w (Look x f)) w)
              (look_for S (Some c) x f (reply_of s w (Look x f))) is (rw is (kept.none is))
          at (Some n) is = record {
            none = λ none. absurd (none-some n (sym none ∙ is));
            some = λ n' is'. subst (λ (y : NodeId). LeafFlagged (applied s w (Look x f)).memory
                (of (applied s w (Look x f)) w) (later_walked S.flagged c.key S.later x f (reply_of s w (Look x f)))
                y.slot) (same_Some n n' (sym is ∙ is')) (rw is (flagged_leaf n (kept.some n is)));
          }
            where
              flagged_leaf : (n : NodeId) → LeafFlagged s.memory (of s w) S.later n.slot
                  → LeafFlagged (applied s w (Look x f)).memory (of (applied s w (Look x f)) w)
                  (walked c.key S.later x f (reply_of s w (Look x f))) n.slot
              flagged_leaf n leaf =
                  let old = leaf_still s h law w (Look x f) ok w (of (applied s w (Look x f)) w) stays S.later n.slot
                  leaf in
                  record {
                    known = old.known;
                    root = old.root;
                    places = places_walked (LedFlagged (applied s w (Look x f)).memory
                        (of (applied s w (Look x f)) w) n.slot) c.key S.later x f (reply_of s w (Look x f)) old.places
                        (λ d e is_edge is some goes. rw (look_writes_nothing s w x f)
                        (place_new c.key n.slot S.later leaf d e is_edge is some goes));
                  }
