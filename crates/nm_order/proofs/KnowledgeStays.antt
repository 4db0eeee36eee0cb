-- While a pin stands, what its worker knows is only added to: an edge that it reads again is the
-- same in what it had known of it.
use Rattle.std.proofs.Common.{◌≡◌, ◌≢◌, ℕ, ◌⊎◌, inl, inr, eqb, ◌==◌, Bool, true, false, cond, not, ◌&&◌, refl, sym, ap, ◌∙◌, true≢false}
use Rattle.std.specs.Prelude.{Option, Some, None}
use Rattle.std.proofs.lemmas.Bool.{cond_both, eqb-true, eq-eqb, ne_eqb, and_parts, or_cases, or_left, or_right}
use Rattle.nm_edge.specs.Edges.{Edge, is_to, tagged}
use Rattle.nm_edge.specs.declared.edge.Side.{Side}
use Rattle.nm_edge.specs.declared.edge.Side.TheVariants.{Left, Right}
use Rattle.nm_model.specs.declared.event.Field.{Field}
use Rattle.nm_model.specs.declared.event.Field.TheVariants.{Key, Edge as EdgeOn, Birth}
use Rattle.nm_model.specs.declared.event.Event.{Event}
use Rattle.nm_model.specs.declared.event.Event.TheVariants.{Sight, SightFor, Announce, Leave, LeaveWith, Scan, Advance, Claim, Give, Look, Fill, Link, Flag, Tag, Splice, Join, Swap}
use Rattle.nm_model.specs.declared.reply.Reply.{Reply}
use Rattle.nm_model.specs.declared.reply.Reply.TheVariants.{Saw, Labelled, Pinned, Missed, Announced, Departed, Idle, In, Moved, Behind, Claimed, Returned, Freed, BirthIs, EdgeIs, Filled, Linked, Flagged, Was, Cut, Lost, Joined}
use Rattle.nm_model.specs.declared.knowledge.Seen.{Seen}
use Rattle.nm_model.specs.Memory.{Memory, node, edge, child}
use Rattle.nm_model.specs.Knowledge.{Knowledge, is_private, seen_of, read, read_on, is_null, knows_leaf}
use Rattle.nm_model.specs.Learning.{learn, learn_sight, learn_scan, look_known, look_private, met, with_read, read_edge, flag_to, resigned, inheriting}
use Rattle.nm_model.specs.Step.{reply, reply_exchange}
use Rattle.nm_model.specs.Runs.{State, refusal_of, reply_of}
use Rattle.nm_model.specs.Walks.{begins_anew}
use Rattle.nm_laws.proofs.Steps.{Allowed}
use Rattle.nm_model.proofs.Tables.{has_put_there}
use Rattle.nm_laws.proofs.Trees.{same_side, same_side-true}
use Rattle.nm_laws.proofs.Views.{seen_met, has_met_there, read_after, read_birth, seen_put}
use Rattle.nm_laws.proofs.TreeSteps.{Lawful, tag_not_null}
use Rattle.nm_order.proofs.SearchSteps.{StillKnown, still_read}

-- ---- what an answer says of the memory

-- of an answer that tells an edge or a birth, how that stands in memory
abbrev pub Answers : Memory → Event → Reply → Type 0
Answers m (Look x (EdgeOn d)) (EdgeIs e) = e ≡ edge m x d
Answers m (Look x Birth) (BirthIs b) = b ≡ (node m x).birth
Answers m (Link p d leaf new) (Lost e) = e ≡ edge m p d
Answers m (Flag p d leaf) (Flagged n) = is_to (edge m p d) leaf ≡ true
Answers m (Flag p d leaf) (Lost e) = e ≡ edge m p d
Answers m (Tag p d) (Was e) = (e ≡ edge m p d) × (e.slot ≢ 0)
Answers m (Splice a d x p keep) (Lost e) = e ≡ edge m a d
Answers m (Swap p d leaf new) (Lost e) = e ≡ edge m p d
Answers m _ _ = Unit {0}

-- an edge that was read in place of another: it leads there too, and has its marks
pub record Renews (old new : Edge) : Type 0 where
  pub slot : new.slot ≡ old.slot
  pub flag : old.flag ≡ true → new.flag ≡ true
  pub tag : old.tag ≡ true → new.tag ≡ true
  pub frozen : old.tag ≡ true → new ≡ old

-- the pin stands and what is known grows: each word is the one that was known, or renews the one in
-- memory
pub record Stays (m : Memory) (k l : Knowledge) : Type 0 where
  pub pin : l.brief.pin ≡ k.brief.pin
  pub known : StillKnown k l
  pub reads : (x : ℕ) (d : Side) → (read l x d ≡ read k x d)
      ⊎ ((e : Edge) × (read l x d ≡ Some e) × Renews (edge m x d) e)
  pub births : (x : ℕ) → ((seen_of l x).birth ≡ (seen_of k x).birth) ⊎ ((seen_of l x).birth ≡ Some (node m x).birth)

module _ (m : Memory) (k : Knowledge) where
  quiet : (l : Knowledge) → l.known ≡ k.known → l.brief.pin ≡ k.brief.pin → Stays m k l
  quiet l same pin = record {
    pin = pin;
    known = λ x h. rw same h;
    reads = λ x d. inl (rw same refl);
    births = λ x. inl (rw same refl);
  }

  pub itself : Stays m k k
  itself = quiet k refl refl

  with_birth : (n : Seen) (d : Side) (e : Edge) → (with_read n d e).birth ≡ n.birth
  with_birth n Left e = refl
  with_birth n Right e = refl

  renewed : (p : ℕ) (d : Side) (e : Edge) → Renews (edge m p d) e → Stays m k (read_edge k p d e)
  renewed p d e new = record {
    pin = refl;
    known = still_read k p d e;
    reads = λ x g. go x g (eqb x p && same_side d g) refl (read_after k p d e x g);
    births = λ x. inl (ap (λ (n : Seen). n.birth) (seen_put (met k.known e.slot) p (with_read (seen_of k p) d e) x)
        ∙ birth x (eqb x p) refl);
  }
    where
      go : (x : ℕ) (g : Side) (b : Bool) → (eqb x p && same_side d g) ≡ b
          → read (read_edge k p d e) x g ≡ cond (eqb x p && same_side d g) (Some e) (read k x g)
          → (read (read_edge k p d e) x g ≡ read k x g)
          ⊎ ((y : Edge) × (read (read_edge k p d e) x g ≡ Some y) × Renews (edge m x g) y)
      go x g true is after =
          let parts = and_parts (eqb x p) (same_side d g) is in
          inr (
            e,
            after ∙ ap (λ (b : Bool). cond b (Some e) (read k x g)) is,
            rw
                (eqb-true x p parts.0, ← same_side-true d g parts.1) new,
          )
      go x g false is after = inl (after ∙ ap (λ (b : Bool). cond b (Some e) (read k x g)) is)

      birth : (x : ℕ) (b : Bool) → eqb x p ≡ b → (cond b (with_read (seen_of k p) d e)
          (seen_of (record k { known = met k.known e.slot }) x)).birth ≡ (seen_of k x).birth
      birth x true is = with_birth (seen_of k p) d e ∙ ap (λ (y : ℕ). (seen_of k y).birth) (sym (eqb-true x p is))
      birth x false is = ap (λ (n : Seen). n.birth) (seen_met k.known e.slot x)

  same : (p : ℕ) (d : Side) (e : Edge) → e ≡ edge m p d → Renews (edge m p d) e
  same p d e is = rw is (record { slot = refl; flag = λ h. h; tag = λ h. h; frozen = λ h. refl })

  flagged : (p : ℕ) (d : Side) (leaf : ℕ) → is_to (edge m p d) leaf ≡ true → Renews (edge m p d) (flag_to leaf)
  flagged p d leaf is =
      let parts = and_parts ((edge m p d).slot == leaf) (not (edge m p d).flag && not (edge m p d).tag) is in
      let marks = and_parts (not (edge m p d).flag) (not (edge m p d).tag) parts.1 in
      record {
        slot = sym (eqb-true (edge m p d).slot leaf parts.0);
        flag = λ _. refl;
        tag = λ h. absurd (true≢false (sym marks.1 ∙ ap not h));
        frozen = λ h. absurd (true≢false (sym marks.1 ∙ ap not h));
      }

  tagged_on : (p : ℕ) (d : Side) (e : Edge) → (e ≡ edge m p d) × (e.slot ≢ 0) → Renews (edge m p d) (tagged e)
  tagged_on p d e is = rw (← is.0) (record {
    slot = refl;
    flag = λ h. h;
    tag = λ _. ap not (ne_eqb e.slot 0 is.1);
    frozen = λ h. ap (λ (b : Bool). with_tag b) (ap not (ne_eqb e.slot 0 is.1) ∙ sym h);
  })
    where
      with_tag : Bool → Edge
      with_tag b = record { slot = e.slot; flag = e.flag; tag = b }

  born : (p b : ℕ) → b ≡ (node m p).birth → Stays m k (read_birth k p b)
  born p b is = record {
    pin = refl;
    known = λ x h. has_put_there k.known p (record (seen_of k p) { birth = Some b }) x (inr h);
    reads = λ x d. inl (ap (λ (n : Seen). read_on n d)
        (seen_put k.known p (record (seen_of k p) { birth = Some b }) x) ∙ go x d (eqb x p) refl);
    births = λ x. birth x (eqb x p) refl;
  }
    where
      go : (x : ℕ) (d : Side) (c : Bool) → eqb x p ≡ c
          → read_on (cond c (record (seen_of k p) { birth = Some b }) (seen_of k x)) d ≡ read k x d
      go x Left true at = ap (λ (y : ℕ). (seen_of k y).left) (sym (eqb-true x p at))
      go x Right true at = ap (λ (y : ℕ). (seen_of k y).right) (sym (eqb-true x p at))
      go x Left false at = refl
      go x Right false at = refl

      birth : (x : ℕ) (c : Bool) → eqb x p ≡ c → ((seen_of (read_birth k p b) x).birth ≡ (seen_of k x).birth)
          ⊎ ((seen_of (read_birth k p b) x).birth ≡ Some (node m x).birth)
      birth x true at = inr (ap (λ (n : Seen). n.birth)
          (seen_put k.known p (record (seen_of k p) { birth = Some b }) x)
          ∙ (ap (λ (c : Bool). (cond c (record (seen_of k p) { birth = Some b }) (seen_of k x)).birth) at
          ∙ (ap Some is ∙ ap (λ (y : ℕ). Some (node m y).birth) (sym (eqb-true x p at)))))
      birth x false at = inl (ap (λ (n : Seen). n.birth)
          (seen_put k.known p (record (seen_of k p) { birth = Some b }) x)
          ∙ ap (λ (c : Bool). (cond c (record (seen_of k p) { birth = Some b }) (seen_of k x)).birth) at)

  -- the slot of a new node is known
  met_new : (l : Knowledge) (new : ℕ) → l.known ≡ met k.known new → l.brief.pin ≡ k.brief.pin → Stays m k l
  met_new l new same pin = record {
    pin = pin;
    known = λ x h. rw same (has_met_there k.known new x h);
    reads = λ x d. inl (rw same (ap (λ (n : Seen). read_on n d) (seen_met k.known new x)));
    births = λ x. inl (rw same (ap (λ (n : Seen). n.birth) (seen_met k.known new x)));
  }

  -- ---- each row of what is learned

  sight : (r : Reply) → begins_anew (Sight, r) ≡ false → Stays m k (learn_sight k r)
  sight (Saw e) stands = quiet _ refl refl
  sight (Labelled e) stands = quiet _ refl refl
  sight (Pinned e) stands = absurd (true≢false stands)
  sight (Missed e) stands = quiet _ refl refl
  sight _ stands = quiet _ refl refl

  call : (op : _) (key : ℕ) (r : Reply) → begins_anew (SightFor op key, r) ≡ false → Stays m k (learn_sight k r)
  call op key (Saw e) stands = quiet _ refl refl
  call op key (Labelled e) stands = quiet _ refl refl
  call op key (Pinned e) stands = absurd (true≢false stands)
  call op key (Missed e) stands = quiet _ refl refl
  call op key _ stands = quiet _ refl refl

  scan : (u : ℕ) (r : Reply) → Stays m k (learn_scan k u r)
  scan u Idle = quiet _ refl refl
  scan u (In e) = quiet _ refl refl
  scan u _ = quiet _ refl refl

  private_look : (x : ℕ) (f : Field) (r : Reply) → Stays m k (look_private k x f r)
  private_look x Birth (BirthIs b) = quiet _ refl refl
  private_look x _ _ = quiet _ refl refl

  known_look : (x : ℕ) (f : Field) (r : Reply) → Answers m (Look x f) r → Stays m k (look_known k x f r)
  known_look x (EdgeOn d) (EdgeIs e) is = renewed x d e (same x d e is)
  known_look x Birth (BirthIs b) is = born x b is
  known_look x _ _ is = quiet _ refl refl

  pub learned_stays : (w : ℕ) (e : Event) (r : Reply) → Answers m e r → begins_anew (e, r) ≡ false
      → Stays m k (learn w k e r)
  unfolding learn
  learned_stays w Sight r is stands = sight r stands
  learned_stays w (SightFor op key) r is stands = call op key r stands
  learned_stays w Announce (Announced e) is stands = quiet _ refl refl
  learned_stays w Leave Departed is stands = absurd (true≢false stands)
  learned_stays w (LeaveWith answer) Departed is stands = absurd (true≢false stands)
  learned_stays w (Scan u) r is stands = scan u r
  learned_stays w Advance (Moved e) is stands = quiet _ refl refl
  learned_stays w Advance (Behind e) is stands = quiet _ refl refl
  learned_stays w (Claim x) (Claimed t) is stands = quiet _ refl refl
  learned_stays w (Give x) (Returned t) is stands = quiet _ refl refl
  learned_stays w (Give x) (Freed n) is stands = quiet _ refl refl
  learned_stays w (Look x f) r is stands = cond_both (is_private k x) (look_private k x f r) (look_known k x f r)
      (Stays m k) (λ _. private_look x f r) (λ _. known_look x f r is)
  learned_stays w (Fill x f v) Filled is stands = quiet _ refl refl
  learned_stays w (Link p d leaf new) (Linked n) is stands = met_new _ new refl refl
  learned_stays w (Link p d leaf new) (Lost e) is stands = renewed p d e (same p d e is)
  learned_stays w (Flag p d leaf) (Flagged n) is stands = renewed p d (flag_to leaf) (flagged p d leaf is)
  learned_stays w (Flag p d leaf) (Lost e) is stands = renewed p d e (same p d e is)
  learned_stays w (Tag p d) (Was e) is stands = renewed p d (tagged e) (tagged_on p d e is)
  learned_stays w (Splice a d x p keep) (Cut ns) is stands = quiet _ refl refl
  learned_stays w (Splice a d x p keep) (Lost e) is stands = renewed a d e (same a d e is)
  learned_stays w (Swap p d leaf new) (Cut ns) is stands = met_new _ new refl refl
  learned_stays w (Swap p d leaf new) (Lost e) is stands = renewed p d e (same p d e is)
  learned_stays w (Join v) (Joined ls) is stands = cond_both (eqb w v) (resigned k) (inheriting k ls) (Stays m k)
      (λ _. quiet _ refl refl) (λ _. quiet _ refl refl)
  learned_stays w e r is stands = quiet _ refl refl

-- ---- a leaf that is known

-- an edge that was read as null is null
abbrev pub NullsStand : Memory → Knowledge → Type 0
NullsStand m k = (x : ℕ) (d : Side) (e : Edge) → read k x d ≡ Some e → e.slot ≡ 0 → child m x d ≡ 0

null_stays : (m : Memory) (k l : Knowledge) → NullsStand m k → Stays m k l → (x : ℕ) (d : Side)
    → is_null (read k x d) ≡ true → is_null (read l x d) ≡ true
null_stays m k l stand stays x d null = elim (stays.reads x d) [
  | inl same ↦ ap is_null same ∙ null
  | inr new ↦ ap is_null new.1 ∙ eq-eqb new.0.slot 0 (new.2.slot ∙ null_child (read k x d) refl null)
]
  where
    null_child : (o : Option Edge) → read k x d ≡ o → is_null o ≡ true → child m x d ≡ 0
    null_child None is t = absurd (true≢false (sym t))
    null_child (Some e) is t = stand x d e is (eqb-true e.slot 0 t)

pub leaf_stays : (m : Memory) (k l : Knowledge) → NullsStand m k → Stays m k l → (x : ℕ) → knows_leaf k x ≡ true
    → knows_leaf l x ≡ true
leaf_stays m k l stand stays x leaf = elim (or_cases (is_null (read k x Left)) (is_null (read k x Right)) leaf) [
  | inl left ↦ or_left (is_null (read l x Left)) (is_null (read l x Right)) (null_stays m k l stand stays x Left left)
  | inr right ↦ or_right (is_null (read l x Left)) (is_null (read l x Right))
      (null_stays m k l stand stays x Right right)
]

-- ---- the answers of an event that is allowed

lost_is : (e : Edge) (x : ℕ) (won : Reply) (P : Reply → Type 0) → (is_to e x ≡ true → P won) → P (Lost e)
    → P (reply_exchange e x won)
lost_is e x won P first second = cond_both (is_to e x) won (Lost e) P first (λ _. second)

pub answers : (s : State) (h : ℕ → ℕ) (law : Lawful s h) (w : ℕ) (e : Event) → Allowed s w e
    → Answers s.memory e (reply_of s w e)
unfolding reply
answers s h law w e ok = go e ok.event
  where
    go : (e : Event) → refusal_of s w e ≡ None → Answers s.memory e (reply_of s w e)
    go (Look x Key) ok = tt
    go (Look x (EdgeOn d)) ok = refl
    go (Look x Birth) ok = refl
    go (Link p d leaf new) ok = lost_is (edge s.memory p d) leaf _ (Answers s.memory (Link p d leaf new)) (λ _. tt) refl
    go (Flag p d leaf) ok = lost_is (edge s.memory p d) leaf _ (Answers s.memory (Flag p d leaf)) (λ t. t) refl
    go (Tag p d) ok = (refl, tag_not_null s h law w p d ok)
    go (Splice a d x p keep) ok = lost_is (edge s.memory a d) x _ (Answers s.memory (Splice a d x p keep)) (λ _. tt)
        refl
    go (Swap p d leaf new) ok = lost_is (edge s.memory p d) leaf _ (Answers s.memory (Swap p d leaf new)) (λ _. tt) refl
    go e ok = tt
