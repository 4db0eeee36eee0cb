-- What a worker learns of slots by an event with its reply is what the reply tells: the slot of an
-- edge of a node that it knows.
use Rattle.std.proofs.Common.{◌≡◌, ◌≢◌, ℕ, ◌≤◌, ◌⊎◌, inl, inr, ◌==◌, Bool, true, false, cond, List, [], refl, sym, ap, ◌∙◌, arith, true≢false}
use Rattle.std.specs.Prelude.{Option, Some, None, is_some, Ok}
use Rattle.std.specs.Ordering.{nat_cmp, is_eq}
use Rattle.std.proofs.lemmas.Option.{none-some, same_Some}
use Rattle.std.proofs.lemmas.Bool.{cond_both, eqb-true}
use Rattle.nm_edge.specs.Edges.{Edge, tagged}
use Rattle.nm_edge.specs.declared.edge.Side.{Side}
use Rattle.nm_edge.specs.declared.node.NodeId.{NodeId}
use Rattle.nm_model.specs.declared.event.Field.{Field}
use Rattle.nm_model.specs.declared.event.Field.TheVariants.{Edge as EdgeOn, Birth}
use Rattle.nm_model.specs.declared.event.Event.{Event}
use Rattle.nm_model.specs.declared.event.Event.TheVariants.{Sight, SightFor, Announce, Leave, LeaveWith, Scan, Advance, Claim, Give, Look, Fill, Link, Flag, Tag, Splice, Join, Swap}
use Rattle.nm_model.specs.declared.reply.Reply.{Reply}
use Rattle.nm_model.specs.declared.reply.Reply.TheVariants.{Saw, Labelled, Pinned, Missed, Announced, Departed, Idle, In, Moved, Behind, Claimed, Returned, Freed, BirthIs, EdgeIs, Filled, Linked, Flagged, Was, Cut, Lost, Joined}
use Rattle.nm_model.specs.declared.knowledge.Seen.{Seen}
use Rattle.nm_model.specs.Maps.{has}
use Rattle.nm_model.specs.Knowledge.{Knowledge, knows, is_private, seen_of, unread}
use Rattle.nm_model.specs.Learning.{learn, learn_sight, learn_scan, look_private, look_known, met, read_edge, with_read, flag_to, rooted, resigned, inheriting}
use Rattle.nm_model.specs.Runs.{State, of}
use Rattle.nm_model.proofs.Tables.{at_eqb, has_put, has_put_there}
use Rattle.nm_laws.proofs.Steps.{Allowed}
use Rattle.nm_laws.proofs.Views.{has_met}
use Rattle.nm_laws.proofs.TreeSlots.{known_live}
use Rattle.nm_laws.proofs.TreeSteps.{Lawful, link_checked, flag_checked, tag_checked, splice_checked, swap_checked, look_checked}
use Rattle.nm_order.proofs.OrderedSteps.{met_is_known}
use Rattle.nm_model.specs.Headline.{confirms, departs, edge_told}

-- ---- what is known after an event, by what was

-- the reply told the slot, of a node that is known, and the pin is what it was
pub record ByReply (k l : Knowledge) (e : Event) (r : Reply) (x : ℕ) : Type 0 where
  pub from : ℕ
  pub edge : edge_told e (Ok r) ≡ Some (from, x)
  pub free : is_private k from ≡ false
  pub pin : l.brief.pin ≡ k.brief.pin

pub record Learns (k l : Knowledge) (e : Event) (r : Reply) : Type 0 where
  pub pin : (p : ℕ) → l.brief.pin ≡ Some p → ((k.brief.pin ≡ Some p) × (departs e (Ok r) ≡ false))
      ⊎ (confirms e (Ok r) ≡ true)
  pub known : (x : ℕ) → 3 ≤ x → knows l x ≡ true → ((knows k x ≡ true) × (departs e (Ok r) ≡ false)) ⊎ ByReply k l e r x

rooted_low : (x : ℕ) → has rooted x ≡ true → 3 ≤ x → ⊥
rooted_low x is six = go (is_eq (nat_cmp x 1)) refl (is_eq (nat_cmp x 2)) refl is
  where
    go : (a : Bool) → is_eq (nat_cmp x 1) ≡ a → (b : Bool) → is_eq (nat_cmp x 2) ≡ b
        → is_some (cond a (Some unread) (cond b (Some unread) None)) ≡ true → ⊥
    go true one b two i = let e = eqb-true x 1 (sym (at_eqb x 1) ∙ one) in omega (arith, e)
    go false one true two i = let e = eqb-true x 2 (sym (at_eqb x 2) ∙ two) in omega (arith, e)
    go false one false two i = true≢false (sym i)

module _ (k : Knowledge) where
  quiet : (l : Knowledge) (e : Event) (r : Reply) → departs e (Ok r) ≡ false → l.known ≡ k.known
      → l.brief.pin ≡ k.brief.pin → Learns k l e r
  quiet l e r none same pin = record {
    pin = λ p is. inl (sym pin ∙ is, none);
    known = λ x six is. inl (ap (λ (m : List (ℕ × Seen)). has m x) (sym same) ∙ is, none);
  }

  -- an edge of a node that is known was read
  by_read : (p : ℕ) (d : Side) (f : Edge) (e : Event) (r : Reply) → departs e (Ok r) ≡ false → knows k p ≡ true
      → is_private k p ≡ false → ((x : ℕ) → x ≡ f.slot → (knows k x ≡ true) ⊎ (edge_told e (Ok r) ≡ Some (p, x)))
      → Learns k (read_edge k p d f) e r
  by_read p d f e r none known free tells = record {
    pin = λ q is. inl (is, none);
    known = λ x six is. go x
        (has_put (met k.known f.slot) p (with_read (seen_of k p) d f) x is);
  }
    where
      by : (x : ℕ) → (knows k x ≡ true) ⊎ (edge_told e (Ok r) ≡ Some (p, x))
          → ((knows k x ≡ true) × (departs e (Ok r) ≡ false)) ⊎ ByReply k (read_edge k p d f) e r x
      by x (inl was) = inl (was, none)
      by x (inr told) = inr (record { from = p; edge = told; free = free; pin = refl })

      more : (x : ℕ) → ((x ≡ f.slot) × (f.slot ≢ 0)) ⊎ (has k.known x ≡ true)
          → ((knows k x ≡ true) × (departs e (Ok r) ≡ false)) ⊎ ByReply k (read_edge k p d f) e r x
      more x (inl new) = by x (tells x new.0)
      more x (inr was) = inl (was, none)

      go : (x : ℕ) → (x ≡ p) ⊎ (has (met k.known f.slot) x ≡ true)
          → ((knows k x ≡ true) × (departs e (Ok r) ≡ false)) ⊎ ByReply k (read_edge k p d f) e r x
      go x (inl same) = inl (ap (knows k) same ∙ known, none)
      go x (inr there) = more x (has_met k.known f.slot x there)

  sight : (e : Event) (r : Reply) → departs e (Ok r) ≡ false → ((n : ℕ) → r ≡ Pinned n → confirms e (Ok r) ≡ true)
      → Learns k (learn_sight k r) e r
  sight e (Saw n) none pins = quiet _ e (Saw n) none refl refl
  sight e (Labelled n) none pins = quiet _ e (Labelled n) none refl refl
  sight e (Pinned n) none pins = record {
    pin = λ p is. inr (pins n refl);
    known = λ x six is. absurd
        (rooted_low x is six);
  }
  sight e (Missed n) none pins = quiet _ e (Missed n) none refl refl
  sight e r none pins = quiet _ e r none refl refl

  scan : (u : ℕ) (r : Reply) → Learns k (learn_scan k u r) (Scan u) r
  scan u Idle = quiet _ (Scan u) Idle refl refl refl
  scan u (In n) = quiet _ (Scan u) (In n) refl refl refl
  scan u r = quiet _ (Scan u) r refl refl refl

  gone : (l : Knowledge) (e : Event) (r : Reply) → l.known ≡ [] → l.brief.pin ≡ None → Learns k l e r
  gone l e r same pin = record {
    pin = λ p is. absurd (none-some p (sym pin ∙ is));
    known = λ x six is. absurd (true≢false (sym is ∙ ap (λ (m : List (ℕ × Seen)). has m x) same));
  }

module _ (s : State) (h : ℕ → ℕ) (law : Lawful s h) (w : ℕ) where
  unowned : (x : ℕ) → knows (of s w) x ≡ true → is_private (of s w) x ≡ false
  unowned x known = (known_live s.layout.nodes s.memory (of s) h w x law.tree known).shared w

  own_look : (x : ℕ) (f : Field) (r : Reply) → Learns (of s w) (look_private (of s w) x f r) (Look x f) r
  own_look x Birth (BirthIs b) = quiet (of s w) _ (Look x Birth) (BirthIs b) refl refl refl
  own_look x f r = quiet (of s w) _ (Look x f) r refl refl refl

  same_slot : (x y z : ℕ) → x ≡ y → ◌≡◌ {A = Option (ℕ × ℕ)} (Some (z, y)) (Some (z, x))
  same_slot x y z e = ap (λ (u : ℕ). Some (z, u)) (sym e)

  known_look : (x : ℕ) (f : Field) (r : Reply) → knows (of s w) x ≡ true
      → Learns (of s w) (look_known (of s w) x f r) (Look x f) r
  known_look x (EdgeOn d) (EdgeIs e) known = by_read (of s w) x d e (Look x (EdgeOn d)) (EdgeIs e) refl known
      (unowned x known) (λ y is. inr (same_slot y e.slot x is))
  known_look x Birth (BirthIs b) known = record {
    pin = λ p is. inl (is, refl);
    known = λ y six is. inl (
      go y (has_put (of s w).known x (record (seen_of (of s w) x) { birth = Some b }) y is),
      refl,
    );
  }
    where
      go : (y : ℕ) → (y ≡ x) ⊎ (has (of s w).known y ≡ true) → knows (of s w) y ≡ true
      go y (inl same) = ap (knows (of s w)) same ∙ known
      go y (inr was) = was
  known_look x f r known = quiet (of s w) _ (Look x f) r refl refl refl

  by_link : (p : ℕ) (d : Side) (leaf new : ℕ) (l : Knowledge) (r : Reply) → l.known ≡ met (of s w).known new
      → l.brief.pin ≡ (of s w).brief.pin → edge_told (Link p d leaf new) (Ok r) ≡ Some (p, new)
      → knows (of s w) p ≡ true → Learns (of s w) l (Link p d leaf new) r
  by_link p d leaf new l r same pin tells known = record {
    pin = λ q is. inl (sym pin ∙ is, refl);
    known = λ x six is. go x (has_met (of s w).known new x (ap (λ (m : List (ℕ × Seen)). has m x) (sym same) ∙ is));
  }
    where
      go : (x : ℕ) → ((x ≡ new) × (new ≢ 0)) ⊎ (has (of s w).known x ≡ true)
          → ((knows (of s w) x ≡ true) × (departs (Link p d leaf new) (Ok r) ≡ false))
          ⊎ ByReply (of s w) l (Link p d leaf new) r x
      go x (inl at) = inr (record {
        from = p;
        edge = tells
            ∙ same_slot x new p at.0;
        free = unowned p known;
        pin = pin;
      })
      go x (inr was) = inl (was, refl)

  by_swap : (p : ℕ) (d : Side) (leaf new : ℕ) (l : Knowledge) (ns : List NodeId) → l.known ≡ met (of s w).known new
      → l.brief.pin ≡ (of s w).brief.pin → knows (of s w) p ≡ true → Learns (of s w) l (Swap p d leaf new) (Cut ns)
  by_swap p d leaf new l ns same pin known = record {
    pin = λ q is. inl (sym pin ∙ is, refl);
    known = λ x six is. go x (has_met (of s w).known new x (ap (λ (m : List (ℕ × Seen)). has m x) (sym same) ∙ is));
  }
    where
      go : (x : ℕ) → ((x ≡ new) × (new ≢ 0)) ⊎ (has (of s w).known x ≡ true)
          → ((knows (of s w) x ≡ true) × (departs (Swap p d leaf new) (Ok (Cut ns)) ≡ false))
          ⊎ ByReply (of s w) l (Swap p d leaf new) (Cut ns) x
      go x (inl at) = inr (record { from = p; edge = same_slot x new p at.0; free = unowned p known; pin = pin })
      go x (inr was) = inl (was, refl)

  pub learned : (e : Event) (r : Reply) → Allowed s w e → Learns (of s w) (learn w (of s w) e r) e r
  unfolding learn
  learned Sight r ok = sight (of s w) Sight r refl (λ n is. ap (λ (q : Reply). confirms Sight (Ok q)) is)
  learned (SightFor op key) r ok = sight (of s w) (SightFor op key) r refl
      (λ n is. ap (λ (q : Reply). confirms (SightFor op key) (Ok q)) is)
  learned Announce (Announced n) ok = quiet (of s w) _ Announce (Announced n) refl refl refl
  learned Leave Departed ok = gone (of s w) _ Leave Departed refl refl
  learned (LeaveWith answer) Departed ok = gone (of s w) _ (LeaveWith answer) Departed refl refl
  learned (Scan u) r ok = scan (of s w) u r
  learned Advance (Moved n) ok = quiet (of s w) _ Advance (Moved n) refl refl refl
  learned Advance (Behind n) ok = quiet (of s w) _ Advance (Behind n) refl refl refl
  learned (Claim x) (Claimed t) ok = quiet (of s w) _ (Claim x) (Claimed t) refl refl refl
  learned (Give x) (Returned t) ok = quiet (of s w) _ (Give x) (Returned t) refl refl refl
  learned (Give x) (Freed n) ok = quiet (of s w) _ (Give x) (Freed n) refl refl refl
  learned (Look x f) r ok = cond_both (is_private (of s w) x) (look_private (of s w) x f r)
      (look_known (of s w) x f r) (λ (l : Knowledge). Learns (of s w) l (Look x f) r) (λ _. own_look x f r)
      (λ free. known_look x f r (look_checked s w x f ok.event free))
  learned (Fill x f v) Filled ok = quiet (of s w) _ (Fill x f v) Filled refl refl refl
  learned (Link p d leaf new) (Linked n) ok = by_link p d leaf new _ (Linked n) refl refl refl
      (link_checked s w p d leaf new ok.event).known
  learned (Link p d leaf new) (Lost f) ok = let known = (link_checked s w p d leaf new ok.event).known in
      by_read (of s w) p d f (Link p d leaf new) (Lost f) refl known (unowned p known)
      (λ y is. inr (same_slot y f.slot p is))
  learned (Flag p d leaf) (Flagged n) ok = let known = flag_checked s w p d leaf ok.event in
      by_read (of s w) p d (flag_to leaf) (Flag p d leaf) (Flagged n) refl known.known (unowned p known.known)
      (λ y is. inl (ap (knows (of s w)) is ∙ known.held))
  learned (Flag p d leaf) (Lost f) ok = let known = flag_checked s w p d leaf ok.event in
      by_read (of s w) p d f (Flag p d leaf) (Lost f) refl known.known (unowned p known.known)
      (λ y is. inr (same_slot y f.slot p is))
  learned (Tag p d) (Was f) ok = let known = (tag_checked s w p d ok.event).0 in
      by_read (of s w) p d (tagged f) (Tag p d) (Was f) refl known (unowned p known)
      (λ y is. inr (same_slot y f.slot p is))
  learned (Splice a d y p keep) (Cut ns) ok = quiet (of s w) _ (Splice a d y p keep) (Cut ns) refl refl refl
  learned (Splice a d y p keep) (Lost f) ok = let known = (splice_checked s w a d y p keep ok.event).known in
      by_read (of s w) a d f (Splice a d y p keep) (Lost f) refl known (unowned a known)
      (λ z is. inr (same_slot z f.slot a is))
  learned (Swap p d leaf new) (Cut ns) ok =
      by_swap p d leaf new _ ns refl refl (swap_checked s w p d leaf new ok.event).known
  learned (Swap p d leaf new) (Lost f) ok = let known = (swap_checked s w p d leaf new ok.event).known in
      by_read (of s w) p d f (Swap p d leaf new) (Lost f) refl known (unowned p known)
      (λ z is. inr (same_slot z f.slot p is))
  learned (Join v) (Joined ls) ok = cond_both (w == v) (resigned (of s w)) (inheriting (of s w) ls)
      (λ (l : Knowledge). Learns (of s w) l (Join v) (Joined ls))
      (λ _. quiet (of s w) _ (Join v) (Joined ls) refl refl refl)
      (λ _. quiet (of s w) _ (Join v) (Joined ls) refl refl refl)
  learned e r ok = quiet (of s w) _ e r refl refl refl

  -- what the reply told is known
  leads_known : (p : ℕ) (d : Side) (f : Edge) (x : ℕ) → f.slot ≡ x → x ≢ 0 → knows (read_edge (of s w) p d f) x ≡ true
  leads_known p d f x same some = has_put_there (met (of s w).known f.slot) p (with_read (seen_of (of s w) p) d f) x
      (inr (ap (λ (y : ℕ). has (met (of s w).known y) x) same ∙ met_is_known (of s w).known x some))

  slot_of_pair : (p y q x : ℕ) → ◌≡◌ {A = Option (ℕ × ℕ)} (Some (p, y)) (Some (q, x)) → (p ≡ q) × (y ≡ x)
  slot_of_pair p y q x e = (
    ap (λ (z : ℕ × ℕ). z.0) (same (p, y) (q, x) e),
    ap (λ (z : ℕ × ℕ). z.1)
        (same (p, y) (q, x) e),
  )
    where
      same : (a b : ℕ × ℕ) → ◌≡◌ {A = Option (ℕ × ℕ)} (Some a) (Some b) → a ≡ b
      same a b e = same_Some a b e

  no_pair : (q x : ℕ) → ◌≡◌ {A = Option (ℕ × ℕ)} None (Some (q, x)) → ⊥
  no_pair q x e = cc

  look_tells : (y : ℕ) (f : Field) (r : Reply) (from x : ℕ) → edge_told (Look y f) (Ok r) ≡ Some (from, x) → x ≢ 0
      → knows (look_known (of s w) y f r) x ≡ true
  look_tells y (EdgeOn d) (EdgeIs e) from x told some = leads_known y d e x (slot_of_pair y e.slot from x told).1 some
  look_tells y f r from x told some = absurd (no_pair from x told)

  pub told_known : (e : Event) (r : Reply) (from x : ℕ) → edge_told e (Ok r) ≡ Some (from, x) → x ≢ 0
      → is_private (of s w) from ≡ false → knows (learn w (of s w) e r) x ≡ true
  unfolding learn
  told_known (Look y f) r from x told some free = cond_both (is_private (of s w) y) (look_private (of s w) y f r)
      (look_known (of s w) y f r) (λ (l : Knowledge). knows l x ≡ true)
      (λ own. absurd (true≢false (sym own ∙ (ap (is_private (of s w)) (at y f r told) ∙ free))))
      (λ _. look_tells y f r from x told some)
    where
      at : (y : ℕ) (f : Field) (r : Reply) → edge_told (Look y f) (Ok r) ≡ Some (from, x) → y ≡ from
      at y (EdgeOn d) (EdgeIs e) told = (slot_of_pair y e.slot from x told).0
      at y f r told = absurd (no_pair from x told)
  told_known (Link p d leaf new) (Linked n) from x told some free = ap (λ (y : ℕ). has (met (of s w).known y) x)
      (slot_of_pair p new from x told).1 ∙ met_is_known (of s w).known x some
  told_known (Link p d leaf new) (Lost f) from x told some free = leads_known p d f x
      (slot_of_pair p f.slot from x told).1 some
  told_known (Flag p d leaf) (Lost f) from x told some free = leads_known p d f x
      (slot_of_pair p f.slot from x told).1 some
  told_known (Tag p d) (Was f) from x told some free = leads_known p d (tagged f) x
      (slot_of_pair p f.slot from x told).1 some
  told_known (Splice a d y p keep) (Lost f) from x told some free = leads_known a d f x
      (slot_of_pair a f.slot from x told).1 some
  told_known (Swap p d leaf new) (Cut ns) from x told some free = ap (λ (y : ℕ). has (met (of s w).known y) x)
      (slot_of_pair p new from x told).1 ∙ met_is_known (of s w).known x some
  told_known (Swap p d leaf new) (Lost f) from x told some free =
      leads_known p d f x (slot_of_pair p f.slot from x told).1 some
  told_known e r from x told some free = absurd (no_pair from x told)
