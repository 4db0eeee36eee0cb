-- A log that goes on under the same pin, and the leaf at which a walk of that pin has ended.
use Rattle.std.proofs.Common.{◌≡◌, ◌⊎◌, ◌≤◌, inl, inr, ℕ, zero, suc, ◌+◌, ◌-◌, ◌==◌, Bool, true, not, cond, ◌&&◌, ◌||◌, List, [], ◌∷◌, ◌++◌, append_assoc, append-nil, refl, sym, ap, ◌∙◌, true≢false}
use Rattle.std.specs.Prelude.{Ok, Result, Some}
use Rattle.std.specs.List.{list_all, list_any}
use Rattle.std.proofs.lemmas.Bool.{and_from, and_parts}
use Rattle.std.proofs.lemmas.List.{append_cancel_left}
use Rattle.std.proofs.lemmas.List.Folds.{list_any-append}
use Rattle.nm_edge.specs.Keys.{IsKey}
use Rattle.nm_edge.specs.Layouts.{Layout}
use Rattle.nm_edge.specs.declared.node.NodeId.{NodeId}
use Rattle.nm_edge.specs.declared.placement.Fit.{Fit}
use Rattle.nm_edge.specs.declared.placement.Fit.TheVariants as fit
use Rattle.nm_model.specs.declared.event.Event.{Event}
use Rattle.nm_model.specs.declared.event.Event.TheVariants.{Leave, LeaveWith}
use Rattle.nm_model.specs.declared.reply.Refused.{Refused}
use Rattle.nm_model.specs.declared.reply.Reply.{Reply}
use Rattle.nm_model.specs.declared.reply.Reply.TheVariants.{Departed}
use Rattle.nm_model.specs.declared.trace.Turn.{Turn}
use Rattle.nm_model.specs.Headline.{HasLeft, departs, leaves}
use Rattle.nm_model.specs.Knowledge.{knows_leaf}
use Rattle.nm_model.specs.Walks.{Entry, begins_anew, logged_by}
use Rattle.nm_order.specs.Facts.Since.{ThePin}
use Rattle.nm_order.specs.Facts.Fact.{KnowsLeaf}
use Rattle.nm_order.specs.Logs.{is_leaver, known_by, part_of, takes_part}
use Rattle.nm_order.proofs.AnswersSince.{part-append}
use Rattle.nm_order.proofs.PartsOfRuns.{logs_tell}
use Rattle.nm_order.proofs.StaleRuns.{walk_knows_leaf}
use Rattle.nm_pool.specs.Claims.{DoneAt, DoneInTurn, IsClaimBy, MadeNew, PassedOver, PassedWithin}
use Rattle.nm_steps.specs.Steps.{HasSeen, IsInRun, PassView}
use Rattle.nm_walks.specs.Telling.{Tells}
use Rattle.nm_walks.proofs.Looks.{enough}
use Rattle.nm_calls.specs.Leaving.{EndedWith}
use Rattle.nm_calls.proofs.FoundValues.{leaf_within}
use Rattle.nm_calls.proofs.MapMoments.{walk_in_run}
use Rattle.nm_calls.proofs.TakenValues.{walk_ended}
use Rattle.nm_calls.proofs.Unheld.{or_cases}
use Rattle.nm_puts.specs.Swaps.{IsUnderPin, stays_pinned}

-- ---- logs

all-append : (xs ys : List Entry) → list_all stays_pinned xs ≡ true → list_all stays_pinned ys ≡ true
    → list_all stays_pinned (xs ++ ys) ≡ true
all-append [] ys a b = b
all-append (x ∷ xs) ys a b =
    let both = and_parts (stays_pinned x) (list_all stays_pinned xs) a in
    and_from (stays_pinned x) (list_all stays_pinned (xs ++ ys)) both.0 (all-append xs ys both.1 b)

pub under_none : (old new : List Entry) → new ≡ old → IsUnderPin old new
under_none old new is = ([], is ∙ sym (append-nil old), refl)

pub under_these : (more old new : List Entry) → new ≡ old ++ more → list_all stays_pinned more ≡ true
    → IsUnderPin old new
under_these more old new is all = (more, is, all)

pub under_then : (old mid new : List Entry) → IsUnderPin old mid → IsUnderPin mid new → IsUnderPin old new
under_then old mid new a b = (
  a.0 ++ b.0,
  b.1 ∙ (ap (λ (l : List Entry). l ++ b.0) a.1 ∙ append_assoc old a.0 b.0),
  all-append a.0 b.0 a.2 b.2,
)

-- ---- a claim

passed_under : (s : ℕ) (old new : List Entry) → PassedOver s old new → IsUnderPin old new
passed_under s old new (inl taken) = under_these _ old new taken refl
passed_under s old new (inr exhausted) = under_these _ old new exhausted refl

passed_all : (from n : ℕ) (old new : List Entry) → DoneInTurn PassedOver from n old new → IsUnderPin old new
passed_all from zero old new h = under_none old new h
passed_all from (suc n) old new h = under_then old h.0 new (passed_all from n old h.0 h.1) (passed_under
    (from + n) h.0 new h.2)

passed_at : (nodes : ℕ) (slots : List ℕ) (old new : List Entry) → DoneAt (PassedWithin nodes) slots old new
    → IsUnderPin old new
passed_at nodes [] old new h = under_none old new h
passed_at nodes (s ∷ slots) old new h = under_then old h.0 new (passed_at nodes slots old h.0 h.1)
    (passed_under s h.0 new h.2.2)

made_under : (n : NodeId) (old new : List Entry) → MadeNew n old new → IsUnderPin old new
made_under n old new made = under_these _ old new made.entries refl

pub claim_under : (f : Fit) (nodes : ℕ) (old new : List Entry) (n : NodeId) → IsClaimBy f nodes old new (Some n)
    → IsUnderPin old new
claim_under fit.FirstFit nodes old new n h = under_then old h.before new (passed_all 6
    (n.slot - 6) old h.before h.passed) (made_under n h.before new h.made)
claim_under fit.NextFit nodes old new n h = under_then old h.before new
    (passed_at nodes h.slots old h.before h.passed) (made_under n h.before new h.made)

-- ---- by such entries a worker does not leave

departs_anew : (e : Event) (o : Result Reply Refused) → departs e o ≡ true → (r : Reply) × (o ≡ Ok r) × (begins_anew
    (e, r) ≡ true)
departs_anew Leave (Ok Departed) d = (Departed, refl, refl)
departs_anew (LeaveWith answer) (Ok Departed) d = (Departed, refl, refl)
departs_anew e o d = absurd (true≢false (sym d))

pub none_left : (w : ℕ) (ts : List Turn) → list_all stays_pinned (part_of w ts) ≡ true → HasLeft w ts → ⊥
none_left w [] all left = true≢false (sym left)
none_left w (t ∷ ts) all left = by (λ rest later. none_left w ts rest later) (or_cases (leaves w t)
    (list_any (leaves w) ts) left)
  where
    first : List Entry
    first = cond (takes_part w t.worker t.event) (logged_by t) []

    halves : (xs ys : List Entry) → list_all stays_pinned (xs ++ ys) ≡ true → (list_all stays_pinned xs ≡ true) ×
        (list_all stays_pinned ys ≡ true)
    halves [] ys h = (refl, h)
    halves (x ∷ xs) ys h =
        let both = and_parts (stays_pinned x) (list_all stays_pinned (xs ++ ys)) h in
        let rest = halves xs ys both.1 in
        (and_from (stays_pinned x) (list_all stays_pinned xs) both.0 rest.0, rest.1)

    parts : (list_all stays_pinned (cond (takes_part w t.worker t.event) (logged_by t) []) ≡ true) ×
        (list_all stays_pinned (part_of w ts) ≡ true)
    parts = halves first (part_of w ts) all

    own : (t.worker == w) ≡ true → (r : Reply) → t.outcome ≡ Ok r → begins_anew (t.event, r) ≡ true → ⊥
    own is r won anew =
        let logged : list_all stays_pinned ((t.event, r) ∷ []) ≡ true =
        ap (λ (o : Result Reply Refused). list_all stays_pinned (logged_by
        (record { worker = t.worker; event = t.event; outcome = o }))) (sym won)
        ∙ (ap (λ (b : Bool). list_all stays_pinned (cond (b || is_leaver w t.event) (logged_by t) [])) (sym is)
        ∙ parts.0) in
        true≢false (sym logged ∙ ap (λ (b : Bool). not b && true) anew)

    by : (list_all stays_pinned (part_of w ts) ≡ true → HasLeft w ts → ⊥) → (leaves w t ≡ true) ⊎ (list_any
        (leaves w) ts ≡ true) → ⊥
    by rest (inl now) =
        let both = and_parts (t.worker == w) (departs t.event t.outcome) now in
        let d = departs_anew t.event t.outcome both.1 in
        own both.0 d.0 d.1 d.2
    by rest (inr later) = rest parts.1 later

-- so it has not left in more turns, by which its log goes on so
pub left_in_none : (w : ℕ) (now more : List Turn) (old new : List Entry) → part_of w now ≡ old → part_of w
    (now ++ more) ≡ new → IsUnderPin old new
    → HasLeft w more → ⊥
left_in_none w now more old new first second under left =
    let same : part_of w more ≡ under.0 =
    append_cancel_left old (part_of w more) under.0
    (ap (λ (l : List Entry). l ++ part_of w more) (sym first) ∙ (sym (part-append w now more) ∙ (second ∙ under.1))) in
    none_left w more (ap (list_all stays_pinned) same ∙ under.2) left

pub none_left_then : (w : ℕ) (ts us : List Turn) → (HasLeft w ts → ⊥) → (HasLeft w us → ⊥) → HasLeft w (ts ++ us) → ⊥
none_left_then w ts us a b left = by (or_cases (list_any (leaves w) ts) (list_any (leaves w) us)
    (sym (list_any-append (leaves w) ts us) ∙ left))
  where
    by : (list_any (leaves w) ts ≡ true) ⊎ (list_any (leaves w) us ≡ true) → ⊥
    by (inl early) = a early
    by (inr late) = b late

-- ---- the leaf at which a walk of the pin has ended

module _ (p : PassView) (run : IsInRun p) (seen : HasSeen p.view) (k leaf : ℕ) (is_key : IsKey k)
    (ended : EndedWith p ThePin k leaf k) where
  -- it is a slot above the fixed nodes
  pub leaf_is_high : (6 ≤ leaf) × (leaf ≤ p.view.layout.nodes)
  leaf_is_high = leaf_within p run.fits seen k leaf is_key
      (ended.0, ended.1, walk_ended p k leaf ended.0 ended.1 ended.2)

  -- and known as a leaf
  pub leaf_is_known : Tells p (KnowsLeaf leaf)
  leaf_is_known =
      let L : Layout = p.view.layout in
      let w : ℕ = p.view.number in
      let there = walk_knows_leaf L (enough L run.fits) [] seen.events seen.keys w k leaf ended.0 ended.1 k
      (walk_in_run p run.fits k is_key seen leaf ended.0 ended.1 k (walk_ended p k leaf ended.0 ended.1 ended.2)) in
      let told = logs_tell L seen.events w seen.worker ∙ ap (known_by L w) (ap (part_of w) (sym seen.are)
      ∙ seen.is_part) in
      ap (λ k. knows_leaf k leaf) (sym told) ∙ there
