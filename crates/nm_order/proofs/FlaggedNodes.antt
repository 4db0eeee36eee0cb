-- What a call keeps as flagged is a leaf that it knows, with the call's key and that birth, in
-- every ordered run.
use Rattle.std.proofs.Common.{◌≡◌, ℕ, ◌≤◌, Bool, true, false, List, [], refl, sym, ap, subst, ◌∙◌, arith, get_or-set_same, get_or-set_other}
use Rattle.std.specs.Prelude.{Some, None, All}
use native.Mathlib.Decide.{ℕ_discrete}
use Rattle.std.proofs.lemmas.Option.{none-some, same_Some}
use Rattle.nm_edge.specs.Edges.{is_to}
use Rattle.nm_edge.specs.Layouts.{Layout}
use Rattle.nm_edge.specs.declared.edge.Side.{Side}
use Rattle.nm_edge.specs.declared.node.NodeId.{NodeId}
use Rattle.nm_model.specs.declared.event.Op.TheVariants.{Delete}
use Rattle.nm_model.specs.declared.event.Event.{Event}
use Rattle.nm_model.specs.declared.event.Event.TheVariants.{Flag}
use Rattle.nm_model.specs.declared.reply.Reply.TheVariants.{Flagged}
use Rattle.nm_model.specs.declared.arrivals.Call.{Call}
use Rattle.nm_model.specs.Memory.{node, edge, named}
use Rattle.nm_model.specs.Knowledge.{knows}
use Rattle.nm_model.specs.Step.{write}
use Rattle.nm_model.specs.Runs.{State, of, reply_of, applied}
use Rattle.nm_model.specs.Searches.{Search, idle, searched}
use Rattle.nm_model.specs.Walks.{begins_anew}
use Rattle.nm_model.specs.Ordered.{ordered, search_of, disorder, after_in}
use Rattle.nm_model.proofs.Numbers.{repeated}
use Rattle.nm_laws.proofs.Steps.{Allowed}
use Rattle.nm_laws.proofs.SearchesGrow.{only_grow}
use Rattle.nm_laws.proofs.TreeSteps.{Lawful, flag_checked}
use Rattle.nm_order.specs.Intervals.{HasKey, Marks}
use Rattle.nm_order.proofs.OrderedChanges.{off_known}
use Rattle.nm_order.proofs.OrderedSteps.{OrderLaw}
use Rattle.nm_order.proofs.OrderedMoments.{lasting, lasting_stays}
use Rattle.nm_order.proofs.OrderedInduction.{IsKept, OfSearches, each_run_keeps}
use Rattle.nm_order.proofs.KnowledgeStays.{Stays, learned_stays, answers}
use Rattle.nm_order.proofs.CallWalks.{others_stay, own_knows}
use Rattle.nm_order.proofs.OwnLinks.{MayFlag, may_flag}
use Rattle.nm_order.proofs.OwnFlags.{marks_leaf, flag_reads}
use Rattle.nm_order.proofs.LaterFlags.{won_flag_shown}
use Rattle.nm_order.proofs.FlaggedLeaves.{FlagStep, flag_step, anew_unflagged}
use Rattle.nm_order.proofs.FlaggedLeaves.FlagStep.{SameFlag, NewFlag}

-- of a worker u with a search S
pub record FlaggedLeaf (s : State) (S : Search) (u : ℕ) (n : NodeId) : Type 0 where
  pub call : Call
  pub is_call : S.call ≡ Some call
  pub is_op : call.op ≡ Delete
  pub known : knows (of s u) n.slot ≡ true
  pub lasts : lasting s.memory n.slot ≡ record { birth = n.birth; key = call.key; leaf = true }

abbrev pub EachFlaggedLeaf : State → List Search → Type 0
EachFlaggedLeaf s ss = (u : ℕ) (n : NodeId) → (search_of ss u).flagged ≡ Some n → FlaggedLeaf s (search_of ss u) u n

module _ (s : State) (h : ℕ → ℕ) (law : Lawful s h) (w : ℕ) (e : Event) (ok : Allowed s w e) where
  pub memory_is : (applied s w e).memory ≡ write s.memory (of s w) w e
  unfolding applied
  memory_is = refl

  -- what lasts of a slot that somebody knows
  pub known_lasts : (u x : ℕ) → knows (of s u) x ≡ true → lasting (applied s w e).memory x ≡ lasting s.memory x
  known_lasts u x known = rw memory_is (lasting_stays s h law w e ok x
      (λ own. off_known s h law u x w x known own [] refl))

  flagged_still : (u : ℕ) (l : Stays s.memory (of s u) (of (applied s w e) u)) (S T : Search) → T.call ≡ S.call
      → (n : NodeId) → FlaggedLeaf s S u n → FlaggedLeaf (applied s w e) T u n
  flagged_still u stays S T same n f = record {
    call = f.call;
    is_call = same ∙ f.is_call;
    is_op = f.is_op;
    known = stays.known n.slot f.known;
    lasts = known_lasts u n.slot f.known ∙ f.lasts;
  }

module _ (s : State) (h : ℕ → ℕ) (law : Lawful s h) (w : ℕ) (ss : List Search) (l : OrderLaw s ss) where
  -- it marks the leaf of its call's key
  pub flag_marks : (p leaf : ℕ) (d : Side) → Allowed s w (Flag p d leaf) → is_to (edge s.memory p d) leaf ≡ true
      → disorder s.layout (of s w) (search_of ss w) (Flag p d leaf) ≡ None
      → (call : Call) × ((search_of ss w).call ≡ Some call) × (call.op ≡ Delete)
      × Marks s.memory p d leaf (named s.memory leaf) call.key
  flag_marks p leaf d ok won order = (
    m.call,
    m.is_call,
    m.is_op,
    marks_leaf s h law w p d leaf ok won m.call.key
        (flag_reads s w (search_of ss w) p d leaf m (l.walks w)),
  )
    where
      m : MayFlag (search_of ss w) p d leaf
      m = may_flag s.layout (of s w) (search_of ss w) p d leaf order

flagged_step : IsKept EachFlaggedLeaf
flagged_step s h law w births ss l kept e ok ordered has u n = elim (ℕ_discrete u w) [
  | yes is ↦ rw (
    is,
    get_or-set_same ss w (searched (search_of ss w) e (reply_of s w e)) idle
        (let size = l.sized in let lt = ok.worker in omega arith),
  ) (own n)
  | no ne ↦ rw (get_or-set_other ss w u (searched (search_of ss w) e (reply_of s w e)) idle ne)
      (λ has. flagged_still s h law w e ok u (others_stay s h law w e ok u ne) (search_of ss u) (search_of ss u) refl n
      (kept u n has))
]
  where
    own : (n : NodeId) → (searched (search_of ss w) e (reply_of s w e)).flagged ≡ Some n
        → FlaggedLeaf (applied s w e) (searched (search_of ss w) e (reply_of s w e)) w n
    own n has = go (begins_anew (e, reply_of s w e)) refl
      where
        go : (b : Bool) → begins_anew (e, reply_of s w e) ≡ b
            → FlaggedLeaf (applied s w e) (searched (search_of ss w) e (reply_of s w e)) w n
        go true anew = absurd (none-some n (sym (anew_unflagged (search_of ss w) e (reply_of s w e) anew) ∙ has))
        go false stands = by (flag_step (search_of ss w) e (reply_of s w e) stands)
          where
            stays : Stays s.memory (of s w) (of (applied s w e) w)
            stays = subst (Stays s.memory (of s w)) (sym (own_knows s h law w e ok))
                (learned_stays s.memory (of s w) w e (reply_of s w e) (answers s h law w e ok) stands)

            same_call : (searched (search_of ss w) e (reply_of s w e)).call ≡ (search_of ss w).call
            same_call = (only_grow (search_of ss w) e (reply_of s w e) stands).call

            by : FlagStep (search_of ss w) e (reply_of s w e) (searched (search_of ss w) e (reply_of s w e))
                → FlaggedLeaf (applied s w e) (searched (search_of ss w) e (reply_of s w e)) w n
            by (SameFlag flagged) = flagged_still s h law w e ok w stays (search_of ss w)
                (searched (search_of ss w) e (reply_of s w e)) same_call n (kept w n (sym flagged ∙ has))
            by (NewFlag p leaf d m is_flag is_flagged flagged later) = flagged_still s h law w e ok w stays
                (search_of ss w) (searched (search_of ss w) e (reply_of s w e)) same_call n
                (subst (FlaggedLeaf s (search_of ss w) w) (same_Some m n (sym flagged ∙ has))
                (new e is_flag ok ordered is_flagged))
              where
                new : (e : Event) → e ≡ Flag p d leaf → Allowed s w e
                    → disorder s.layout (of s w) (search_of ss w) e ≡ None → reply_of s w e ≡ Flagged m
                    → FlaggedLeaf s (search_of ss w) w m
                new e is = subst (λ (e : Event). Allowed s w e → disorder s.layout (of s w) (search_of ss w) e ≡ None
                    → reply_of s w e ≡ Flagged m → FlaggedLeaf s (search_of ss w) w m) (sym is) (λ ok ordered told.
                    let won = won_flag_shown s w p leaf d m told in
                    let k = flag_marks s h law w ss l p leaf d ok won.0 ordered in
                    subst (FlaggedLeaf s (search_of ss w) w) won.1 (record {
                      call = k.0;
                      is_call = k.1;
                      is_op = k.2;
                      known = (flag_checked s w p d leaf ok.event).held;
                      lasts = λ i. record {
                        birth = (node s.memory leaf).birth;
                        key = k.3.has_key i;
                        leaf =
                            k.3.childless i;
                      };
                    }))

pub each_flagged_leaf : (L : Layout) → 5 ≤ L.nodes → (turns : List (ℕ × Event)) → All (λ t. HasKey t.1) turns
    → OfSearches EachFlaggedLeaf (after_in (ordered L) turns)
each_flagged_leaf L enough turns keys = each_run_keeps EachFlaggedLeaf flagged_step L enough
    (λ u n has. absurd (none-some n (sym (ap (λ (S : Search). S.flagged) (repeated L.workers u idle)) ∙ has))) turns
    keys
