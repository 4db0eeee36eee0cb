-- A leaf that a pinned worker reached is freed by no turn until the worker unpins.
use Rattle.std.proofs.Common.{◌≡◌, ◌⊎◌, inl, inr, ℕ, ◌==◌, ◌||◌, Bool, true, false, cond, List, [], ◌∷◌, ◌++◌, append-nil, append_assoc, refl, sym, ap, subst, ◌∙◌, arith, ◌+◌, length, true≢false}
use Rattle.std.specs.Prelude.{Contains, Err, Ok, Result, Some}
use Rattle.std.specs.List.{list_any}
use Rattle.std.proofs.lemmas.Bool.{and_parts}
use Rattle.std.proofs.lemmas.List.{length-append}
use Rattle.std.proofs.lemmas.List.Folds.{list_any-append}
use Rattle.std.proofs.lemmas.List.Elements.{Contains-append_cases, Contains-append_left, Contains-append_right}
use Rattle.nm_edge.specs.Layouts.{Layout}
use Rattle.nm_edge.specs.declared.node.NodeId.{NodeId}
use Rattle.nm_model.specs.declared.event.Event.{Event}
use Rattle.nm_model.specs.declared.event.Event.TheVariants.{Leave, LeaveWith}
use Rattle.nm_model.specs.declared.reply.Refused.{Refused}
use Rattle.nm_model.specs.declared.reply.Reply.{Reply}
use Rattle.nm_model.specs.declared.trace.Turn.{Turn}
use Rattle.nm_model.specs.Headline.{Headline, HasLeft, IsPinned, cuts_of, departs, freed_by, leaves, nodes_cut_of, nodes_freed_of, words_after}
use Rattle.nm_model.specs.Memory.{named}
use Rattle.nm_model.specs.Paths.{Reached}
use Rattle.nm_model.specs.Walks.{logged_by}
use Rattle.nm_order.specs.Logs.{is_leaver, part_of, takes_part}
use Rattle.nm_theorem.proofs.FreedOfRuns.{cuts-append}
use Rattle.nm_theorem.proofs.LeftSince.{readers_have_left}
use Rattle.nm_steps.specs.declared.view.Stored.{Stored}
use Rattle.nm_calls.specs.GotValues.{GotLeavesAreNotFreed, GotValuesStayOut, GuardedLeavesAreNotFreed, GuardedValuesStayOut, got_leaf, leaf_of}
use Rattle.nm_calls.specs.Maps.{WasMappedUnderPin}
use Rattle.nm_calls.specs.OnceBack.{ComesBack, IsStoreOf}
use Rattle.nm_calls.proofs.MapMoments.{holds_longer}
use Rattle.nm_calls.proofs.OnceBack.{one_leaf, part_append}
use Rattle.nm_calls.proofs.Unheld.{freed_by-append, or_cases, or_right, pin_lasts}

-- ---- the turn that cut a node

pub record CutIn (ts : List Turn) (n : NodeId) : Type 0 where
  pub before : List Turn
  pub cut : Turn
  pub since : List Turn
  pub are : ts ≡ before ++ cut ∷ since
  pub there : Contains (nodes_cut_of cut.outcome) n

none_there : (n : NodeId) → Contains [] n → ⊥
none_there n c = let below = c.1 in omega (arith, below)

pub cut_in : (w : ℕ) (ts : List Turn) (n : NodeId) → Contains (cuts_of w ts) n → CutIn ts n
cut_in w [] n c = absurd (none_there n c)
cut_in w (t ∷ ts) n c = by (Contains-append_cases (cond (t.worker == w) (nodes_cut_of t.outcome) []) (cuts_of w ts) n
    c) (cut_in w ts n)
  where
    here : (b : Bool) → Contains (cond b (nodes_cut_of t.outcome) []) n → Contains (nodes_cut_of t.outcome) n
    here true at = at
    here false at = absurd (none_there n at)

    by : Contains (cond (t.worker == w) (nodes_cut_of t.outcome) []) n ⊎ Contains (cuts_of w ts) n
        → (Contains (cuts_of w ts) n → CutIn ts n) → CutIn (t ∷ ts) n
    by (inl at) later = record { before = []; cut = t; since = ts; are = refl; there = here (t.worker == w) at }
    by (inr at) later = let r = later at in
        record {
          before = t ∷ r.before;
          cut = r.cut;
          since = r.since;
          are = ap (λ (l : List Turn). t ∷ l) r.are;
          there = r.there;
        }

-- ---- a leave

left_later : (w : ℕ) (xs ys : List Turn) → HasLeft w ys → HasLeft w (xs ++ ys)
left_later w xs ys left = list_any-append (leaves w) xs ys
    ∙ or_right (list_any (leaves w) xs) (list_any (leaves w) ys) left

left_sooner : (w : ℕ) (xs ys : List Turn) → HasLeft w xs → HasLeft w (xs ++ ys)
left_sooner w xs ys left = list_any-append (leaves w) xs ys ∙ ap (λ (b : Bool). b || list_any (leaves w) ys) left

-- ---- a node that was reached under a pin

pub not_freed_under_pin : (L : Layout) (turns : List Turn) → Headline L turns → (w : ℕ) (so_far rest : List Turn)
    → turns ≡ so_far ++ rest → IsPinned w so_far → (HasLeft w rest → ⊥) → (x : ℕ) → Reached (words_after L so_far) x
    → Contains (freed_by turns) (named (words_after L so_far) x) → ⊥
not_freed_under_pin L turns h w so_far rest are pinned stays x reached freed = by
    (Contains-append_cases (cuts_of cut.0 so_far) (cuts_of cut.0 rest) n
    (subst (λ (ns : List NodeId). Contains ns n) (ap (cuts_of cut.0) are ∙ cuts-append cut.0 so_far rest) cut.1))
  where
    n : NodeId
    n = named (words_after L so_far) x

    cut : (u : ℕ) × Contains (cuts_of u turns) n
    cut = (h.queues turns [] (sym (append-nil turns))).only n freed

    later : CutIn rest n → ⊥
    later c =
        stays (subst (HasLeft w) (sym c.are) (left_later w c.before (c.cut ∷ c.since) (left_later w (c.cut ∷ []) c.since
        (readers_have_left L turns h n freed (so_far ++ c.before) c.since c.cut
        (are ∙ (ap (λ (ts : List Turn). so_far ++ ts) c.are ∙ sym (append_assoc so_far c.before (c.cut ∷ c.since))))
        c.there w
        (pin_lasts w so_far c.before pinned (λ left. stays
        (subst (HasLeft w) (sym c.are) (left_sooner w c.before (c.cut ∷ c.since) left))))))))

    by : Contains (cuts_of cut.0 so_far) n ⊎ Contains (cuts_of cut.0 rest) n → ⊥
    by (inl early) = let less = h.younger so_far rest are cut.0 n early reached in omega (arith, less)
    by (inr late) = later (cut_in cut.0 rest n late)

-- ---- the laws

pub guarded_leaves_are_not_freed : GuardedLeavesAreNotFreed
guarded_leaves_are_not_freed L turns h so_far rest are guard pinned stays stores k v is freed = not_freed_under_pin L
    turns h guard so_far rest are pinned stays is.slot is.reached freed

freed_there : (before rest : List Turn) (free : Turn) (n : NodeId) → Contains (nodes_freed_of free.outcome) n
    → Contains (freed_by (before ++ free ∷ rest)) n
freed_there before rest free n frees =
    subst (λ (ns : List NodeId). Contains ns n) (sym (freed_by-append before (free ∷ rest)))
    (Contains-append_right (freed_by before) (freed_by (free ∷ rest)) n
    (Contains-append_left (nodes_freed_of free.outcome) (freed_by rest) n frees))

-- a leaf whose value has come back is freed
freed_if_back : (L : Layout) (turns : List Turn) (x : Stored) (n : NodeId) → IsStoreOf L turns x n
    → ComesBack L turns x → Contains (freed_by turns) n
freed_if_back L turns x n stored back =
    subst (λ (ts : List Turn). Contains (freed_by ts) n) (sym back.are)
    (freed_there back.so_far back.rest back.free n
    (subst (λ (m : NodeId). Contains (nodes_freed_of back.free.outcome) m)
    (one_leaf L turns x back.leaf n back.stored stored) back.frees))

pub guarded_values_stay_out : GuardedValuesStayOut
guarded_values_stay_out L turns h so_far rest are guard pinned stays stores k v is x stored back =
    guarded_leaves_are_not_freed L turns h so_far rest are guard pinned stays stores k v is
    (freed_if_back L turns x (leaf_of is) stored back)

pub got_leaves_are_not_freed : GotLeavesAreNotFreed
got_leaves_are_not_freed L turns h was stores w k v got =
    guarded_leaves_are_not_freed L turns h got.so_far got.rest got.are w got.pinned got.stays stores k v got.gives

pub got_values_stay_out : GotValuesStayOut
got_values_stay_out L turns h was stores w k v got x stored back =
    got_leaves_are_not_freed L turns h was stores w k v got (freed_if_back L turns x (got_leaf got) stored back)

-- ---- a pin that lasts while more is seen

departs_refused : (e : Event) (q : Refused) → departs e (Err q) ≡ false
departs_refused Leave q = refl
departs_refused (LeaveWith answer) q = refl
departs_refused e q = refl

-- a worker that makes no turn does not leave
quiet_stays : (w : ℕ) (ts : List Turn) → length (part_of w ts) ≡ 0 → HasLeft w ts → ⊥
quiet_stays w [] none' left = true≢false (sym left)
quiet_stays w (t ∷ ts) none' left = by (quiet_stays w ts (let sum = sizes in omega (arith, sum, none')))
    (or_cases (leaves w t) (list_any (leaves w) ts) left)
  where
    sizes : length (part_of w (t ∷ ts)) ≡ length (cond (takes_part w t.worker t.event) (logged_by t) [])
        + length (part_of w ts)
    sizes = length-append (cond (takes_part w t.worker t.event) (logged_by t) []) (part_of w ts)

    one : (r : Reply) → length (logged_by (record { worker = t.worker; event = t.event; outcome = Ok r })) ≡ 1
    one r = refl

    its : (o : Result Reply Refused) → t.outcome ≡ o → (t.worker == w) ≡ true → departs t.event t.outcome ≡ true → ⊥
    its (Err q) is own departed = true≢false (sym departed ∙ (ap (departs t.event) is ∙ departs_refused t.event q))
    its (Ok r) is own departed =
        let here = ap (λ (c : Bool). length (cond (c || is_leaver w t.event) (logged_by t) [])) own
        ∙ (ap (λ (o : Result Reply Refused). length
        (logged_by (record { worker = t.worker; event = t.event; outcome = o }))) is ∙ one r) in
        let sum = sizes in
        omega (arith, here, sum, none')

    by : (HasLeft w ts → ⊥) → (leaves w t ≡ true) ⊎ (list_any (leaves w) ts ≡ true) → ⊥
    by rest (inl now) = let both = and_parts (t.worker == w) (departs t.event t.outcome) now in
        its t.outcome refl both.0 both.1
    by rest (inr later) = rest later

-- nor has it left in more turns, by which its log has not grown
pub stays_longer : (w : ℕ) (now more rest : List Turn) → length (part_of w (now ++ more)) ≡ length (part_of w now)
    → (HasLeft w rest → ⊥) → HasLeft w (rest ++ more) → ⊥
stays_longer w now more rest same stays left = by
    (or_cases (list_any (leaves w) rest) (list_any (leaves w) more) (sym (list_any-append (leaves w) rest more) ∙ left))
  where
    by : (list_any (leaves w) rest ≡ true) ⊎ (list_any (leaves w) more ≡ true) → ⊥
    by (inl early) = stays early
    by (inr late) = quiet_stays w more (let sum = part_append w now more in omega (arith, sum, same)) late

-- what a worker got under its pin, in more turns, by which its log has not grown
pub got_longer : (L : Layout) (was now more : List Turn) (stores : List Stored) (w k v : ℕ)
    → length (part_of w (now ++ more)) ≡ length (part_of w now) → WasMappedUnderPin L was now stores w k (Some v)
    → WasMappedUnderPin L was (now ++ more) stores w k (Some v)
got_longer L was now more stores w k v same got = record {
  so_far = got.so_far;
  rest = got.rest ++ more;
  are = ap (λ (ts : List Turn). ts ++ more) got.are ∙ append_assoc got.so_far got.rest more;
  later = got.later;
  pinned = got.pinned;
  stays = stays_longer w now more got.rest same got.stays;
  gives = got.gives;
  stored = holds_longer L got.so_far now (now ++ more) stores (record { more = more; is = refl }) got.stored;
}
