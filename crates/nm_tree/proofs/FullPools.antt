-- An insert that found no slot has passed over each of them, right before its unpin.
use Rattle.std.proofs.Common.{◌≡◌, ◌⊎◌, inl, inr, ℕ, zero, suc, ◌+◌, ◌-◌, ◌<◌, ◌≤◌, false, List, [], ◌∷◌, ◌++◌, append-nil, append_assoc, refl, sym, ap, subst, ◌∙◌, arith}
use Rattle.std.specs.Prelude.{Some, None, Err, Contains}
use Rattle.std.proofs.lemmas.Bool.{cases_lt}
use Rattle.std.proofs.lemmas.List.Elements.{Contains-append_left, Contains-append_right}
use Rattle.nm_edge.specs.Layouts.{Layout}
use Rattle.nm_edge.specs.declared.node.NodeId.{NodeId}
use Rattle.nm_edge.specs.declared.placement.Fit.{Fit}
use Rattle.nm_edge.specs.declared.placement.Fit.TheVariants as fit
use Rattle.nm_model.specs.declared.event.Event.{Event}
use Rattle.nm_model.specs.declared.event.Event.TheVariants.{Claim, Give, Leave, Look, SightFor}
use Rattle.nm_model.specs.declared.event.Field.TheVariants.{Birth}
use Rattle.nm_model.specs.declared.event.Op.TheVariants.{Insert}
use Rattle.nm_model.specs.declared.reply.Reply.{Reply}
use Rattle.nm_model.specs.declared.reply.Reply.TheVariants.{BirthIs, Claimed, Departed, Returned, Taken}
use Rattle.nm_model.specs.Step.{last_number}
use Rattle.nm_model.specs.Walks.{Entry}
use Rattle.nm_order.specs.Logs.{is_leaver}
use Rattle.nm_steps.specs.Steps.{HasSeen, HasSeenAllOf, IsSamePass, PassView}
use Rattle.nm_pool.specs.Claims.{DoneAt, DoneInTurn, IsClaimBy, IsOneOfSlots, PassedOver, PassedWithin}
use Rattle.nm_walks.specs.Growing.{ClaimsNewNodes}
use Rattle.nm_calls.specs.declared.fault.CallFault.TheVariants as fault
use Rattle.nm_calls.specs.Inserts.{InsertDid}
use Rattle.nm_tree.specs.Answers.{FindsNoSlot, FoundNoSlot, HasMade}
use Rattle.nm_tree.specs.Workers.{WorkerView}
use Rattle.nm_tree.proofs.MadeInTurns.{made_by, part_since}
use Rattle.nm_tree.proofs.Unfreed.{Unfreed, inserts_lost, pin_unfreed, stops_unfreed, then'}

-- ---- claims

-- these entries passed over the slot
abbrev pub WasPassedOver : ℕ → List Entry → Type 0
WasPassedOver s es = Contains es (Claim s, Taken) ⊎ Contains es (Look s Birth, BirthIs last_number)

-- entries that passed over each of these slots
pub record Passes (P : ℕ → Type 0) (old new : List Entry) : Type 0 where
  pub claims : List Entry
  pub are : new ≡ old ++ claims
  pub each : (s : ℕ) → P s → WasPassedOver s claims

passes_then : (P Q R : ℕ → Type 0) (old mid new : List Entry) → ((s : ℕ) → R s → P s ⊎ Q s) → Passes P old mid
    → Passes Q mid new → Passes R old new
passes_then P Q R old mid new split a b = record {
  claims = a.claims ++ b.claims;
  are = b.are ∙ (ap (λ (l : List Entry). l ++ b.claims) a.are ∙ append_assoc old a.claims b.claims);
  each = λ s is. by s (split s is);
}
  where
    first : (s : ℕ) → WasPassedOver s a.claims → WasPassedOver s (a.claims ++ b.claims)
    first s (inl there) = inl (Contains-append_left a.claims b.claims _ there)
    first s (inr there) = inr (Contains-append_left a.claims b.claims _ there)

    second : (s : ℕ) → WasPassedOver s b.claims → WasPassedOver s (a.claims ++ b.claims)
    second s (inl there) = inl (Contains-append_right a.claims b.claims _ there)
    second s (inr there) = inr (Contains-append_right a.claims b.claims _ there)

    by : (s : ℕ) → P s ⊎ Q s → WasPassedOver s (a.claims ++ b.claims)
    by s (inl p) = first s (a.each s p)
    by s (inr q) = second s (b.each s q)

passes_none : (old new : List Entry) → new ≡ old → Passes (λ s. ⊥) old new
passes_none old new is = record { claims = []; are = is ∙ sym (append-nil old); each = λ s no. absurd no }

passes_fewer : (P Q : ℕ → Type 0) (old new : List Entry) → ((s : ℕ) → Q s → P s) → Passes P old new → Passes Q old new
passes_fewer P Q old new less a = record { claims = a.claims; are = a.are; each = λ s is. a.each s (less s is) }

passes_one : (x : ℕ) (old new : List Entry) → PassedOver x old new → Passes (λ s. s ≡ x) old new
passes_one x old new (inl taken) =
    let claims : List Entry = (Claim x, Taken) ∷ [] in
    let there : Contains claims (Claim x, Taken) = (zero, omega arith, refl) in
    record {
      claims = claims;
      are = taken;
      each = λ s is. subst (λ (y : ℕ). WasPassedOver y claims) (sym is)
          (inl there);
    }
passes_one x old new (inr exhausted) =
    let claims : List Entry = (Claim x, Claimed x) ∷ (Look x Birth, BirthIs last_number) ∷ (Give x, Returned x) ∷ [] in
    let there : Contains claims (Look x Birth, BirthIs last_number) = (suc zero, omega arith, refl) in
    record {
      claims = claims;
      are = exhausted;
      each = λ s is. subst (λ (y : ℕ). WasPassedOver y claims) (sym is)
          (inr there);
    }

abbrev Between : ℕ → ℕ → ℕ → Type 0
Between from n s = (from ≤ s) × (s < from + n)

passes_turn : (from n : ℕ) (old new : List Entry) → DoneInTurn PassedOver from n old new
    → Passes (Between from n) old new
passes_turn from zero old new h = passes_fewer (λ s. ⊥) (Between from zero) old new
    (λ s is. (let low = is.0 in let high = is.1 in omega (arith, low, high))) (passes_none old new h)
passes_turn from (suc n) old new h = passes_then (Between from n) (λ s. s ≡ from + n) (Between from (suc n)) old h.0
    new split (passes_turn from n old h.0 h.1) (passes_one (from + n) h.0 new h.2)
  where
    split : (s : ℕ) → Between from (suc n) s → Between from n s ⊎ (s ≡ from + n)
    split s (low, high) = elim (cases_lt s (from + n)) [
      | inl less ↦ inl (low, less)
      | inr more ↦ inr (omega (arith, high, more))
    ]

passes_at : (nodes : ℕ) (slots : List ℕ) (old new : List Entry) → DoneAt (PassedWithin nodes) slots old new
    → Passes (λ s. IsOneOfSlots s slots) old new
passes_at nodes [] old new h = passes_none old new h
passes_at nodes (x ∷ slots) old new h = passes_then (λ s. IsOneOfSlots s slots) (λ s. s ≡ x)
    (λ s. IsOneOfSlots s (x ∷ slots)) old h.0 new split (passes_at nodes slots old h.0 h.1) (passes_one x h.0 new h.2.2)
  where
    split : (s : ℕ) → IsOneOfSlots s (x ∷ slots) → IsOneOfSlots s slots ⊎ (s ≡ x)
    split s (inl is) = inr (sym is)
    split s (inr more) = inl more

-- each slot above 5
abbrev pub IsAny : ℕ → ℕ → Type 0
IsAny nodes s = (6 ≤ s) × (s ≤ nodes)

pub no_node : (f : Fit) (nodes : ℕ) (old new : List Entry) → IsClaimBy f nodes old new None
    → Passes (IsAny nodes) old new
no_node fit.FirstFit nodes old new h = passes_fewer (Between 6 (nodes + 1 - 6)) (IsAny nodes) old new
    (λ s is. (let low = is.0 in let high = is.1 in (low, omega (arith, low, high))))
    (passes_turn 6 (nodes + 1 - 6) old new h)
no_node fit.NextFit nodes old new h = passes_fewer (λ s. IsOneOfSlots s h.slots) (IsAny nodes) old new
    (λ s is. h.all s is.0 is.1) (passes_at nodes h.slots old new h.passed)

one_node : (f : Fit) (nodes : ℕ) (old new : List Entry) (n : NodeId) → IsClaimBy f nodes old new (Some n)
    → Passes (λ s. ⊥) old new
one_node fit.FirstFit nodes old new n h = passes_then (Between 6 (n.slot - 6)) (λ s. ⊥) (λ s. ⊥) old h.before new
    (λ s no. absurd no) (passes_turn 6 (n.slot - 6) old h.before h.passed)
    (record { claims = _; are = h.made.entries; each = λ s no. absurd no })
one_node fit.NextFit nodes old new n h = passes_then (λ s. IsOneOfSlots s h.slots) (λ s. ⊥) (λ s. ⊥) old h.before new
    (λ s no. absurd no) (passes_at nodes h.slots old h.before h.passed)
    (record { claims = _; are = h.made.entries; each = λ s no. absurd no })

pub no_nodes : (f : Fit) (nodes : ℕ) (old new : List Entry) → ClaimsNewNodes f nodes old new None
    → Passes (IsAny nodes) old new
no_nodes f nodes old new (inl h) = no_node f nodes old new h
no_nodes f nodes old new (inr (n, mid, all, first, second, back)) =
    passes_then (λ s. ⊥) (IsAny nodes) (IsAny nodes) old mid new (λ s is. inr is) (one_node f nodes old mid n first)
    (passes_then (IsAny nodes) (λ s. ⊥) (IsAny nodes) mid all new (λ s is. inl is) (no_node f nodes mid all second)
    (record { claims = _; are = back; each = λ s no. absurd no }))

-- ---- the whole call

-- what is among the entries that were added was made in the turns that were added
claims_made : (p q : PassView) (first claims last : List Entry) → HasSeen p.view → HasSeen q.view → IsSamePass p q
    → (past : HasSeenAllOf q p) → q.view.log ≡ p.view.log ++ (first ++ (claims ++ last))
    → (e : Event) (r : Reply) → is_leaver p.view.number e ≡ false → Contains claims (e, r)
    → HasMade q.view.number past.goes_on.more e r
claims_made p q first claims last seen_p seen_q on past log e r plain there =
    subst (λ (u : ℕ). HasMade u past.goes_on.more e r) (sym (ap (λ (x : PassView). x.view.number) on))
    (made_by p.view.number e r past.goes_on.more plain
    (subst (λ (l : List Entry). Contains l (e, r)) (sym
    (part_since p q (first ++ (claims ++ last)) seen_p seen_q on past.goes_on log))
    (Contains-append_right first (claims ++ last) (e, r) (Contains-append_left claims last (e, r) there))))

-- a worker whose last claims passed over each slot, right before its unpin, has found no slot
module _ (L : Layout) (w z : WorkerView) (same : z.pass.view.layout ≡ L) (seen_w : HasSeen w.pass.view)
    (seen_z : HasSeen z.pass.view) (on : IsSamePass w.pass z.pass) (past : HasSeenAllOf z.pass w.pass)
    (at mid : List Entry) (so_far : Unfreed w.pass.view.log at) (passed : Passes (IsAny L.nodes) at mid)
    (leaves : z.pass.view.log ≡ mid ++ (Leave, Departed) ∷ []) where
  log : z.pass.view.log ≡ w.pass.view.log ++ (so_far.entries ++ (passed.claims ++ (Leave, Departed) ∷ []))
  log = leaves
      ∙ (ap (λ (l : List Entry). l ++ (Leave, Departed) ∷ [])
      (passed.are ∙ ap (λ (l : List Entry). l ++ passed.claims) so_far.are)
      ∙ (append_assoc (w.pass.view.log ++ so_far.entries) passed.claims ((Leave, Departed) ∷ [])
      ∙ append_assoc w.pass.view.log so_far.entries (passed.claims ++ (Leave, Departed) ∷ [])))

  made : (e : Event) (q : Reply) → is_leaver w.pass.view.number e ≡ false → Contains passed.claims (e, q)
      → HasMade z.pass.view.number past.goes_on.more e q
  made e q plain there = claims_made w.pass z.pass so_far.entries passed.claims ((Leave, Departed) ∷ []) seen_w
      seen_z on past log e q plain there

  by : (s : ℕ) → WasPassedOver s passed.claims → HasMade z.pass.view.number past.goes_on.more (Claim s) Taken
      ⊎ HasMade z.pass.view.number past.goes_on.more (Look s Birth) (BirthIs last_number)
  by s (inl there) = inl (made (Claim s) Taken refl there)
  by s (inr there) = inr (made (Look s Birth) (BirthIs last_number) refl there)

  each : FindsNoSlot z.pass.view.layout.nodes z.pass.view.number past.goes_on.more
  each s low high = by s (passed.each s (low, subst (λ (M : Layout). s ≤ M.nodes) same high))

  pub found_none : FoundNoSlot w.pass z.pass
  found_none = (past.goes_on.more, past.goes_on.is, each)

pub found_no_slot : (L : Layout) (tries k : ℕ) (w z : WorkerView) → z.pass.view.layout ≡ L → HasSeen w.pass.view
    → HasSeen z.pass.view → IsSamePass w.pass z.pass → HasSeenAllOf z.pass w.pass
    → InsertDid w.fit L tries k w.pass.view.log z.pass.view.log (Err fault.Full) → FoundNoSlot w.pass z.pass
found_no_slot L tries k w z same seen_w seen_z on past
    (pinned, epoch, pin, (mid, (n, f, begun, few, lost, (r, c, at, walk, other, none', gone, claimed)), leaves)) =
    found_none L w z same seen_w seen_z on past at mid so_far (no_nodes w.fit L.nodes at mid claimed) leaves
  where
    so_far : Unfreed w.pass.view.log at
    so_far = then' w.pass.view.log pinned at (pin_unfreed (SightFor Insert k) (λ reply. refl) tries w.pass.view.log
        pinned epoch pin) (then' pinned begun at (inserts_lost w.fit L k n f pinned begun lost)
        (stops_unfreed L k begun at c r walk))
