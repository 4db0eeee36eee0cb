-- No event but a splice that is won cuts anything.
use Rattle.std.proofs.Common.{◌≡◌, ℕ, ◌+◌, ◌<◌, ◌≤◌, eqb, Bool, true, false, cond, ◌&&◌, List, [], ◌∷◌, ◌⊎◌, inl, inr, length, refl, sym, ap, ◌∙◌, arith, true≢false}
use Rattle.std.specs.Prelude.{Option, Some, None, is_some, unwrap_or, nat_lt, Result, Ok}
use Rattle.std.proofs.lemmas.Bool.{cond_both, cond-true, eqb-true, and_parts, or_parts, false_from_ne_true}
use Rattle.nm_edge.specs.Edges.{Edge, to, is_to, tagged}
use Rattle.nm_edge.specs.declared.edge.Side.{Side}
use Rattle.nm_edge.specs.declared.node.NodeId.{NodeId}
use Rattle.nm_model.specs.declared.event.Field.{Field}
use Rattle.nm_model.specs.declared.event.Field.TheVariants.{Key, Edge as EdgeOn, Birth}
use Rattle.nm_model.specs.declared.event.Event.{Event}
use Rattle.nm_model.specs.declared.event.Event.TheVariants.{Sight, SightFor, Announce, Leave, LeaveWith, Scan, Advance, Claim, Give, Look, Fill, Link, Flag, Tag, Splice, Swap, Join}
use Rattle.nm_model.specs.declared.reply.Reply.{Reply}
use Rattle.nm_model.specs.declared.reply.Reply.TheVariants.{Cut, Freed, Joined, Labelled, Linked, Lost}
use Rattle.nm_model.specs.declared.reply.Refused.{Refused}
use Rattle.nm_model.specs.Maps.{get, without, is_number}
use Rattle.nm_model.specs.Memory.{Memory, node, edge, named, put_node, put_edge}
use Rattle.nm_model.specs.Knowledge.{Knowledge, is_private, draft_of, read, beside}
use Rattle.nm_model.specs.Learning.{learn, linked_in, flag_to}
use Rattle.nm_model.specs.Paths.{follow, Reached}
use Rattle.nm_model.specs.Step.{outside, is_edge, refusal, reply, write, filled as filled_node, kept, cut_nodes, node_linked}
use Rattle.nm_model.specs.Runs.{State, of, start, after, next, outcome, refused, answered, unless_refused, applied, reply_of}
use Rattle.nm_model.specs.Laws.{OnlySplicesAnswerCuts, OfEachState, NothingElseCuts}
use Rattle.nm_laws.proofs.Steps.{Allowed, allowed, passed}
use Rattle.nm_model.proofs.Tables.{get-without, ascends-without}
use Rattle.nm_laws.proofs.Learned.{learn_linked}
use Rattle.nm_laws.proofs.Trees.{same_side, same_side-true, unvisited, same_follow, each_side}
use Rattle.nm_laws.proofs.Pictures.{below, IsLive, TreeLaw, reached_live, reached_within, path_not_queued}
use Rattle.nm_laws.proofs.Slots.{with_edge_at, with_edges, is_exchanged}
use Rattle.nm_laws.proofs.Splices.{live_on_path}
use Rattle.nm_laws.proofs.Views.{picture, view, with_worker, edge_put, queue_rows}
use Rattle.nm_laws.proofs.TreeSlots.{is_to-true, node_put_edges}
use Rattle.nm_laws.proofs.TreeSteps.{Lawful, tree_step, high_from, slot_inside, fill_checked}
use Rattle.nm_laws.proofs.Changes.{Change, changed}
use Rattle.nm_laws.proofs.Changes.Change.{Keeps, Labels, Cuts, Frees}
use Rattle.nm_laws.proofs.Lawful.JoinOrNot.{IsJoin, IsNone}
use Rattle.nm_laws.proofs.Lawful.{JoinOrNot, join_or_not, IsLawful, lawful}
use Rattle.nm_laws.proofs.Outcomes.{same_reply, no_reply}

same_slots : (m n : Memory) → ((x : ℕ) (d : Side) → (edge n x d).slot ≡ (edge m x d).slot) → (y : ℕ) → Reached m y
    → Reached n y
same_slots m n same y r = record { path = r.path; ends = same_follow _ _ same 1 r.path ∙ r.ends; is_slot = r.is_slot }

same_paths : (m n : Memory) → ((x : ℕ) (d : Side) → edge n x d ≡ edge m x d) → (y : ℕ) → Reached m y → Reached n y
same_paths m n same = same_slots m n (λ x d. ap (λ (e : Edge). e.slot) (same x d))

-- an edge is exchanged for one that leads to the same slot
marks_stay : (m : Memory) (p : ℕ) (d : Side) (e : Edge) → p < length m.nodes → e.slot ≡ (edge m p d).slot → (y : ℕ)
    → Reached m y → Reached (put_edge m p d e) y
marks_stay m p d e inside slot = same_slots m (put_edge m p d e)
    (λ x g. ap (λ (z : Edge). z.slot) (edge_put m p d e inside x g) ∙ go x g)
  where
    go : (x : ℕ) (g : Side) → (with_edge_at (edge m) p d e x g).slot ≡ (edge m x g).slot
    go x g = by (eqb x p && same_side d g) refl
      where
        by : (b : Bool) → (eqb x p && same_side d g) ≡ b → (cond b e (edge m x g)).slot ≡ (edge m x g).slot
        by true h = let parts = and_parts (eqb x p) (same_side d g) h in
            slot ∙ (ap (λ (z : ℕ). (edge m z d).slot) (sym (eqb-true x p parts.0))
            ∙ ap (λ (z : Side). (edge m x z).slot) (same_side-true d g parts.1))
        by false h = refl

module _ (s : State) (h : ℕ → ℕ) (law : Lawful s h) (w : ℕ) where
  fill_stays : (x : ℕ) (f : Field) (v : ℕ) → x < length s.memory.nodes → is_private (of s w) x ≡ true → (y : ℕ)
      → Reached s.memory y → Reached (put_node s.memory x (filled_node (node s.memory x) f v)) y
  fill_stays x Key v inside own y r = same_paths s.memory (put_node s.memory x (filled_node (node s.memory x) Key v))
      (node_put_edges s.memory x (filled_node (node s.memory x) Key v) inside (each_side _ refl refl)) y r
  fill_stays x Birth v inside own y r = same_paths s.memory
      (put_node s.memory x (filled_node (node s.memory x) Birth v))
      (node_put_edges s.memory x (filled_node (node s.memory x) Birth v) inside (each_side _ refl refl)) y r
  fill_stays x (EdgeOn d) v inside own y r = record {
    path = r.path;
    ends = same_follow _ _ (λ z g. ap (λ (e : Edge). e.slot) (edge_put s.memory x d (to v) inside z g)) 1 r.path
        ∙ (unvisited (below (picture s h)) (below (with_edges (picture s h) x d (to v))) x d v
        (is_exchanged (picture s h) x d (to v)) 1 never r.path ∙ r.ends);
    is_slot = r.is_slot;
  }
    where
      never : (q : List Side) → follow (below (picture s h)) 1 q ≡ x → ⊥
      never q is =
          let range = law.tree.privates w x own in
          let live = reached_live s.layout.nodes (picture s h) law.tree q (rw is (λ z. omega arith)) in
          true≢false (sym (rw is own) ∙ live.shared w)

  -- what is reached stands on a path after a link too, since it stands nowhere else
  link_stays : (p : ℕ) (d : Side) (leaf new : ℕ) → Allowed s w (Link p d leaf new) → (y : ℕ) → Reached s.memory y
      → Reached (write s.memory (of s w) w (Link p d leaf new)) y
  unfolding write reply
  link_stays p d leaf new ok y r = by (is_to (edge s.memory p d) leaf)
      (tree_step s h law w (Link p d leaf new) ok (λ v e. cc))
    where
      live : IsLive (picture s h) y
      live = rw (← r.ends) (reached_live s.layout.nodes (picture s h) law.tree r.path (rw r.ends r.is_slot))

      within' : y ≤ s.layout.nodes
      within' = rw (← r.ends) (reached_within s.layout.nodes (picture s h) law.tree r.path)

      k : Knowledge
      k = linked_in (of s w) leaf new

      shrink : is_private k y ≡ true → is_private (of s w) y ≡ true
      shrink i = go (eqb y (unwrap_or (beside (draft_of (of s w) new) leaf) 0)) (eqb y new)
          (sym (ap is_some (get-without (without (of s w).drafts new)
          (unwrap_or (beside (draft_of (of s w) new) leaf) 0) y
          (ascends-without (of s w).drafts new (law.drafts w))
          ∙ ap (cond (eqb y (unwrap_or (beside (draft_of (of s w) new) leaf) 0)) None)
          (get-without (of s w).drafts new y (law.drafts w)))) ∙ i)
        where
          go : (b c : Bool) → is_some (cond b None (cond c None (get (of s w).drafts y))) ≡ true
              → is_private (of s w) y ≡ true
          go true c i = absurd (true≢false (sym i))
          go false true i = absurd (true≢false (sym i))
          go false false i = i

      shared : (u : ℕ) → is_private (with_worker (of s) w k u) y ≡ false
      shared u = go (eqb u w) refl
        where
          go : (b : Bool) → eqb u w ≡ b → is_private (cond b k (of s u)) y ≡ false
          go true i = false_from_ne_true _ (λ j. true≢false (sym (shrink j) ∙ live.shared w))
          go false i = live.shared u

      by : (b : Bool) → TreeLaw s.layout.nodes (view (cond b (put_edge s.memory p d (to new)) s.memory)
          (with_worker (of s) w (learn w (of s w) (Link p d leaf new)
          (cond b (Linked (node_linked (of s w) new)) (Lost (edge s.memory p d))))) h)
          → Reached (cond b (put_edge s.memory p d (to new)) s.memory) y
      by false tree = r
      by true tree =
          let tree' = rw (learn_linked w (of s w) p d leaf new (node_linked (of s w) new)) at tree in
          let on = live_on_path s.layout.nodes (view (put_edge s.memory p d (to new)) (with_worker (of s) w k) h) y
          tree' (record { pooled = live.pooled; shared = shared }) r.is_slot within'
          (λ o i q. path_not_queued s.layout.nodes (picture s h) law.tree r.path o i (rw r.ends r.is_slot)
          (queue_rows (of s) h w k (λ o. refl) o i ∙ (q ∙ ap Some (sym r.ends)))) in
          record { path = on.path; ends = on.ends; is_slot = on.is_slot }

  -- an event that isn't a splice that is won
  write_stays : (e : Event) → Allowed s w e → ((ns : List NodeId) → reply_of s w e ≡ Cut ns → ⊥) → (y : ℕ)
      → Reached s.memory y → Reached (write s.memory (of s w) w e) y
  unfolding write reply refusal
  write_stays Sight ok uncut y r = r
  write_stays (SightFor op key) ok uncut y r = r
  write_stays Announce ok uncut y r = record { path = r.path; ends = r.ends; is_slot = r.is_slot }
  write_stays Leave ok uncut y r = record { path = r.path; ends = r.ends; is_slot = r.is_slot }
  write_stays (LeaveWith answer) ok uncut y r = record { path = r.path; ends = r.ends; is_slot = r.is_slot }
  write_stays (Scan u) ok uncut y r = r
  write_stays Advance ok uncut y r = cond_both (is_number (of s w).brief.seen s.memory.epoch)
      (record s.memory { epoch = s.memory.epoch + 1 }) s.memory (λ m. Reached m y)
      (λ _. record { path = r.path; ends = r.ends; is_slot = r.is_slot }) (λ _. r)
  write_stays (Claim x) ok uncut y r = record { path = r.path; ends = r.ends; is_slot = r.is_slot }
  write_stays (Give x) ok uncut y r = record { path = r.path; ends = r.ends; is_slot = r.is_slot }
  write_stays (Look x f) ok uncut y r = r
  write_stays (Fill x f v) ok uncut y r =
      let parts = or_parts (outside 6 s.layout.nodes x) (is_edge f && nat_lt s.layout.nodes v)
      (passed _ _ _ ok.event).0 in
      fill_stays x f v (slot_inside s h law x 6 parts.0) (fill_checked s w (Fill x f v) ok.event x f v refl) y r
  write_stays (Link p d leaf new) ok uncut y r = link_stays p d leaf new ok y r
  write_stays (Flag p d leaf) ok uncut y r = by (is_to (edge s.memory p d) leaf) refl
    where
      inside : p < length s.memory.nodes
      inside =
          let range = high_from 1 s.layout.nodes p (or_parts (outside 1 s.layout.nodes p)
          (outside 6 s.layout.nodes leaf) (passed _ _ _ ok.event).0).0 in let size = law.roomy.nodes in omega arith

      by : (b : Bool) → is_to (edge s.memory p d) leaf ≡ b
          → Reached (cond b (put_edge s.memory p d (flag_to leaf)) s.memory) y
      by true i = marks_stay s.memory p d (flag_to leaf) inside
          (sym (ap (λ (e : Edge). e.slot) (is_to-true (edge s.memory p d) leaf i))) y r
      by false i = r
  write_stays (Tag p d) ok uncut y r = marks_stay s.memory p d (tagged (edge s.memory p d))
      (let range = high_from 1 s.layout.nodes p (passed _ _ _ ok.event).0 in let size = law.roomy.nodes in omega arith)
      refl y r
  write_stays (Splice a d x p keep) ok uncut y r = by (is_to (edge s.memory a d) x) refl
    where
      by : (b : Bool) → is_to (edge s.memory a d) x ≡ b
          → Reached (cond b (put_edge s.memory a d (kept (read (of s w) p keep))) s.memory) y
      by true i = absurd (uncut (cut_nodes s.layout s.memory (of s w) x p keep)
          (cond-true (is_to (edge s.memory a d) x) (Cut (cut_nodes s.layout s.memory (of s w) x p keep))
          (Lost (edge s.memory a d)) i))
      by false i = r
  write_stays (Swap p d leaf new) ok uncut y r = by (is_to (edge s.memory p d) leaf) refl
    where
      by : (b : Bool) → is_to (edge s.memory p d) leaf ≡ b
          → Reached (cond b (put_edge s.memory p d (to new)) s.memory) y
      by true i = absurd (uncut (named s.memory leaf ∷ [])
          (cond-true (is_to (edge s.memory p d) leaf) (Cut (named s.memory leaf ∷ [])) (Lost (edge s.memory p d)) i))
      by false i = r
  write_stays (Join v) ok uncut y r = r

pub nothing_else_cuts : OfEachState NothingElseCuts
unfolding next outcome applied
nothing_else_cuts L enough turns t uncut y r = go (refused (after (start L) turns) t.0 t.1) refl uncut
  where
    l : IsLawful (after (start L) turns)
    l = lawful L enough turns

    go : (o : Option Refused) → refused (after (start L) turns) t.0 t.1 ≡ o
        → ((ns : List NodeId) → ◌≡◌ {A = Result Reply Refused} (answered o (reply_of (after (start L) turns) t.0 t.1))
        (Ok (Cut ns)) → ⊥)
        → Reached (unless_refused o (after (start L) turns) (applied (after (start L) turns) t.0 t.1)).memory y
    go None is uncut = write_stays (after (start L) turns) l.holder l.law t.0 t.1
        (allowed (after (start L) turns) t.0 t.1 is) (λ ns i. uncut ns (ap (λ (q : Reply). Ok q) i)) y r
    go (Some x) is uncut = r

-- ---- no other event answers a cut

-- an event is a splice; or a swap
abbrev pub IsSplice : Event → Type 0
IsSplice e = (a : ℕ) × (side : Side) × (successor : ℕ) × (parent : ℕ) × (keep : Side)
    × (e ≡ Splice a side successor parent keep)

abbrev pub SpliceOrSwap : Event → Type 0
SpliceOrSwap e = IsSplice e
    ⊎ ((p : ℕ) × (side : Side) × (leaf : ℕ) × (new : ℕ) × (e ≡ Swap p side leaf new))

cut_is_splice : (s : State) (t : ℕ × Event) (ns : List NodeId) → outcome s t ≡ Ok (Cut ns) → SpliceOrSwap t.1
unfolding outcome
cut_is_splice s t ns is = go (refused s t.0 t.1) refl is
  where
    by : (k : Knowledge) → reply_of s t.0 t.1 ≡ Cut ns → Change s t.0 t.1 (reply_of s t.0 t.1) k → SpliceOrSwap t.1
    by k r (Keeps _ _ un _) = absurd (un ns r)
    by k r (Labels _ _ q) = absurd (no (sym q ∙ r))
      where
        no : Labelled s.memory.epoch ≡ Cut ns → ⊥
        no e = cc
    by k r (Cuts ms _ _ q (inl won)) = inl (won.ancestor, won.side, won.successor, won.parent, won.keep, won.is)
    by k r (Cuts ms _ _ q (inr won)) = inr (won.parent, won.side, won.leaf, won.new, won.is)
    by k r (Frees x y f _ _ _ q _) = absurd (no (sym q ∙ r))
      where
        no : Freed y.node ≡ Cut ns → ⊥
        no e = cc

    no_join : (v : ℕ) → t.1 ≡ Join v → reply_of s t.0 t.1 ≡ Cut ns → ⊥
    no_join v e r = no (sym (ap (reply_of s t.0) e) ∙ r)
      where
        no : Joined (of s v).ledgers ≡ Cut ns → ⊥
        no e = cc

    go : (o : Option Refused) → refused s t.0 t.1 ≡ o
        → ◌≡◌ {A = Result Reply Refused} (answered o (reply_of s t.0 t.1)) (Ok (Cut ns)) → SpliceOrSwap t.1
    go (Some r) i is = absurd (no_reply r (Cut ns) is)
    go None i is = on (join_or_not t.1)
      where
        on : JoinOrNot t.1 → SpliceOrSwap t.1
        on (IsJoin v e) = absurd (no_join v e (same_reply _ _ is))
        on (IsNone alone) = by _ (same_reply _ _ is) (changed s t.0 t.1 (allowed s t.0 t.1 i) alone).ledgers

pub only_splices_answer_cuts : OfEachState OnlySplicesAnswerCuts
only_splices_answer_cuts L enough turns t ns is = cut_is_splice (after (start L) turns) t ns is
