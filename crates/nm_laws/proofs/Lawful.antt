-- Every state of every run is lawful.
use Rattle.std.proofs.Common.{◌≡◌, ℕ, ◌<◌, ◌≤◌, ◌≢◌, List, length, refl, sym, ap, subst, arith, true≢false}
use Rattle.std.specs.Prelude.{Option, Some, None, Ok, Err}
use Rattle.nm_edge.specs.Layouts.{Layout}
use Rattle.nm_model.specs.declared.event.Event.{Event}
use Rattle.nm_model.specs.declared.event.Event.TheVariants.{Join}
use Rattle.nm_model.specs.declared.reply.Refused.{Refused}
use Rattle.nm_model.specs.Knowledge.{Knowledge}
use Rattle.nm_model.specs.Learning.{learn}
use Rattle.nm_model.specs.Step.{write}
use Rattle.nm_model.specs.Runs.{State, of, start, reply_of, refused, applied, unless_refused, answered, next, outcome, after}
use Rattle.nm_laws.proofs.Reaches.{IsReachable}
use Rattle.nm_laws.proofs.Steps.{each, moved, Allowed, allowed, by_steps}
use Rattle.nm_laws.proofs.Sizes.{staffed_step, staffed_start, roomy_step, roomy_start}
use Rattle.nm_laws.proofs.Epochs.{epoch_step, other_worker}
use Rattle.nm_laws.proofs.Pins.{epoch_start, all_new}
use Rattle.nm_model.proofs.Tables.{Ascends}
use Rattle.nm_laws.proofs.Changes.{Changed, changed, OnlyPinned}
use Rattle.nm_laws.proofs.Holders.{heirs, Joins, joins, by_worker, holders_moved, holders_joined, holders_start}
use Rattle.nm_laws.proofs.Views.{picture, picture_moved, law_of}
use Rattle.nm_laws.proofs.TreeSteps.{Lawful, tree_step, tree_joined}
use Rattle.nm_laws.proofs.Opening.{tree_start}

-- lawful, whoever holds the ledgers
pub record IsLawful (s : State) : Type 0 where
  pub holder : ℕ → ℕ
  pub law : Lawful s holder

-- an event but a join changes what its worker knows, and one word at most
pub applied_is : (s : State) (w : ℕ) (e : Event) → ((v : ℕ) → e ≡ Join v → ⊥)
    → applied s w e ≡ moved s w (write s.memory (of s w) w e) (learn w (of s w) e (reply_of s w e))
unfolding applied
applied_is s w (Join v) alone = absurd (alone v refl)
applied_is s w e alone = refl

pub moved_lawful : (s : State) (h : ℕ → ℕ) (w : ℕ) (e : Event) → Lawful s h → Allowed s w e
    → ((v : ℕ) → e ≡ Join v → ⊥) → Lawful (applied s w e) h
moved_lawful s h w e law ok alone = record {
  staffed = staffed_step s w e law.staffed;
  roomy = roomy_step s w e law.roomy;
  epochs = epoch_step s w e law.staffed law.epochs ok;
  holders = rw (applied_is s w e alone) (holders_moved s h w (write s.memory (of s w) w e) e (reply_of s w e) k
      inside ok.worker what law.holders);
  drafts = rw (applied_is s w e alone) (each s.layout (λ u x. Ascends x.drafts) s.workers w k inside
      (what.drafts (law.drafts w)) (λ u _. law.drafts u));
  known = rw (applied_is s w e alone) (each s.layout (λ u x. OnlyPinned x) s.workers w k inside
      (what.known (law.known w)) (λ u _. law.known u));
  tree = rw (applied_is s w e alone) (rw (picture_moved s w (write s.memory (of s w) w e) k h inside)
      (tree_step s h law w e ok alone));
}
  where
    k : Knowledge
    k = learn w (of s w) e (reply_of s w e)

    inside : w < length s.workers
    inside = let size = law.staffed.workers in let lt = ok.worker in omega arith

    what : Changed s w e (reply_of s w e) k
    what = changed s w e ok alone

pub join_lawful : (s : State) (h : ℕ → ℕ) (w v : ℕ) → Lawful s h → Allowed s w (Join v)
    → Lawful (applied s w (Join v)) (heirs h w v)
unfolding applied write
join_lawful s h w v law ok = record {
  staffed = staffed_step s w (Join v) law.staffed;
  roomy = roomy_step s w (Join v) law.roomy;
  epochs = epoch_step s w (Join v) law.staffed law.epochs ok;
  holders = holders_joined s h w v (applied s w (Join v)) refl j there.0 ok.worker ok.stays law.holders;
  drafts = by_worker s (applied s w (Join v)) w v j (λ u x. Ascends x.drafts) (law.drafts w) (law.drafts v)
      (λ u _ _. law.drafts u);
  known = by_worker s (applied s w (Join v)) w v j (λ u x. OnlyPinned x) (law.known w) (law.known v)
      (λ u _ _. law.known u);
  tree = law_of s.layout.nodes (picture s h) (picture (applied s w (Join v)) (heirs h w v)) law.tree
      (tree_joined s h w v (applied s w (Join v)) refl j there.0 law.holders);
}
  where
    there : (v ≢ w) × (v < s.layout.workers)
    there = other_worker s w v ok.event

    j : Joins s (applied s w (Join v)) w v
    j = joins s w v (let size = law.staffed.workers in let lt = ok.worker in omega arith)
        (let size = law.staffed.workers in let lt = there.1 in omega arith) there.0

-- an event is a join or none
pub data JoinOrNot (e : Event) : Type 0 where
  IsJoin : (v : ℕ) → e ≡ Join v → JoinOrNot e
  IsNone : ((v : ℕ) → e ≡ Join v → ⊥) → JoinOrNot e

pub join_or_not : (e : Event) → JoinOrNot e
join_or_not (Join v) = IsJoin v refl
join_or_not e = IsNone (λ v h. cc)

-- what holds of a turn that is refused, of one that is no join and of a join, holds of every turn
pub each_turn : (s : State) (P : ℕ × Event → Type 0)
    → ((t : ℕ × Event) (r : Refused) → next s t ≡ s → outcome s t ≡ Err r → P t)
    → ((w : ℕ) (e : Event) → Allowed s w e → next s (w, e) ≡ applied s w e → outcome s (w, e) ≡ Ok (reply_of s w e)
    → ((v : ℕ) → e ≡ Join v → ⊥) → P (w, e))
    → ((w v : ℕ) → Allowed s w (Join v) → next s (w, Join v) ≡ applied s w (Join v)
    → outcome s (w, Join v) ≡ Ok (reply_of s w (Join v)) → P (w, Join v))
    → (t : ℕ × Event) → P t
unfolding next outcome
each_turn s P stays moves joined t = go (refused s t.0 t.1) refl
  where
    go : (o : Option Refused) → refused s t.0 t.1 ≡ o → P t
    go (Some r) is = stays t r (ap (λ x. unless_refused x s (applied s t.0 t.1)) is)
        (ap (λ x. answered x (reply_of s t.0 t.1)) is)
    go None is = by (join_or_not t.1)
      where
        is_next : next s t ≡ applied s t.0 t.1
        is_next = ap (λ x. unless_refused x s (applied s t.0 t.1)) is

        is_outcome : outcome s t ≡ Ok (reply_of s t.0 t.1)
        is_outcome = ap (λ x. answered x (reply_of s t.0 t.1)) is

        by : JoinOrNot t.1 → P t
        by (IsNone alone) = moves t.0 t.1 (allowed s t.0 t.1 is) is_next is_outcome alone
        by (IsJoin v e) = subst (λ (x : Event). Allowed s t.0 x → next s (t.0, x) ≡ applied s t.0 x
            → outcome s (t.0, x) ≡ Ok (reply_of s t.0 x) → P (t.0, x)) (sym e)
            (λ ok n q. joined t.0 v ok n q) (allowed s t.0 t.1 is) is_next is_outcome

pub lawful_step : (s : State) (w : ℕ) (e : Event) → IsLawful s → Allowed s w e → IsLawful (applied s w e)
lawful_step s w e lawful ok = go (join_or_not e)
  where
    go : JoinOrNot e → IsLawful (applied s w e)
    go (IsNone alone) = record { holder = lawful.holder; law = moved_lawful s lawful.holder w e lawful.law ok alone }
    go (IsJoin v is) = record {
      holder = heirs lawful.holder w v;
      law = subst
          (λ (x : Event). Lawful (applied s w x) (heirs lawful.holder w v)) (sym is)
          (join_lawful s lawful.holder w v lawful.law (subst (λ (x : Event). Allowed s w x) is ok));
    }

pub opening_lawful : (L : Layout) → 5 ≤ L.nodes → Lawful (start L) (λ o. o)
opening_lawful L enough = record {
  staffed = staffed_start L;
  roomy = roomy_start L enough;
  epochs = epoch_start L;
  holders = holders_start L;
  drafts = λ w. rw (all_new L w) tt;
  known = λ w. rw (all_new L w) (λ x h. absurd (true≢false (sym h)));
  tree = tree_start L enough;
}

pub lawful_start : (L : Layout) → 5 ≤ L.nodes → IsLawful (start L)
lawful_start L enough = record { holder = λ o. o; law = opening_lawful L enough }

pub lawful : (L : Layout) → 5 ≤ L.nodes → (turns : List (ℕ × Event)) → IsLawful (after (start L) turns)
lawful L enough turns = by_steps IsLawful lawful_step turns (start L) (lawful_start L enough)

-- the same of a state that can be reached
pub reachable_is_lawful : (s : State) → IsReachable s → IsLawful s
reachable_is_lawful s r = subst (λ (t : State). IsLawful t) r.leads
    (lawful s.layout (let enough = r.fits.least in omega arith) r.events)
