-- What claiming a slot leaves, and giving it back.
use Rattle.std.proofs.Common.{◌≡◌, ◌≢◌, ℕ, zero, suc, ◌+◌, ◌-◌, ◌≤◌, ◌⊎◌, inl, inr, eqb, Bool, true, false, true≢false, List, [], ◌∷◌, ◌++◌, refl, sym, ap, subst, ◌∙◌}
use Rattle.std.specs.Prelude.{Option, Some, None, is_some, IfSome}
use Rattle.std.proofs.lemmas.Bool.{cond-true, eqb-true, eqb-false}
use Rattle.nm_edge.specs.Layouts.{Layout}
use Rattle.nm_edge.specs.declared.node.NodeId.{NodeId}
use Rattle.nm_model.specs.declared.event.Event.{Event}
use Rattle.nm_model.specs.declared.event.Event.TheVariants.{Claim, Give, Look, Fill}
use Rattle.nm_model.specs.declared.event.Field.TheVariants.{Birth}
use Rattle.nm_model.specs.declared.knowledge.Draft.{Draft}
use Rattle.nm_model.specs.declared.reply.Reply.{Reply}
use Rattle.nm_model.specs.declared.reply.Reply.TheVariants.{Claimed, Taken, Returned, BirthIs, Filled}
use Rattle.nm_model.specs.declared.arrivals.Call.{Call}
use Rattle.nm_model.specs.Knowledge.{Knowledge, unfilled, is_private, draft_of}
use Rattle.nm_model.specs.Learning.{filled_in, look_private, look_known}
use Rattle.nm_model.specs.Maps.{get, put, without}
use Rattle.nm_model.specs.Searches.{Search, idle, searched, look_for}
use Rattle.nm_model.specs.Step.{last_number}
use Rattle.nm_model.specs.Walks.{Entry, search_after}
use Rattle.nm_laws.proofs.Learned.{learn_claimed, learn_taken, learn_look, learn_returned, learn_filled}
use Rattle.nm_model.proofs.Tables.{Ascends}
use Rattle.nm_order.specs.Logs.{known_by, IsLogOf}
use Rattle.nm_order.proofs.LastEntries.{known_more, search_more, log_before}
use Rattle.nm_order.proofs.ToldClaims.{claims_are_new}
use Rattle.nm_pool.specs.Claims.{DoneAt, FoundExhausted, MadeNew, PassedOver, PassedWithin, IsClaimBy, DoneInTurn, FoundTaken, LearnsSlots}
use Rattle.nm_edge.specs.declared.placement.Fit.{Fit}
use Rattle.nm_edge.specs.declared.placement.Fit.TheVariants as fit
use Rattle.nm_steps.proofs.Presence.{known_after_step}
use Rattle.nm_pool.proofs.PrivateSlots.{put_another, put_there}
use Rattle.nm_steps.specs.Rules.{knowledge}
use Rattle.nm_steps.specs.Steps.{PassView, Stepped, IsSamePass}
use Rattle.nm_steps.proofs.AfterSteps.{is_join}
use Rattle.nm_walks.specs.Telling.{IsInRun}
use Rattle.nm_walks.specs.Making.{KeepsOtherSlots, KeepsAllBut, OnlyMakes}
use Rattle.nm_walks.proofs.Looks.{enough}
use Rattle.nm_walks.proofs.Makes.{drafts_ascend, without_it, without_another, makes, search_then}

-- ---- the call's search is as it was

-- a look at a birth adds nothing to a search
birth_adds_nothing : (s : Search) (x b : ℕ) → searched s (Look x Birth) (BirthIs b) ≡ s
unfolding searched
birth_adds_nothing s x b = of_call s.call
  where
    later : (o : Option NodeId) → Search → Search
    later None t = t
    later (Some n) t = t

    of_flag : (c : Call) (f : Option NodeId) → look_for (record s { flagged = f }) (Some c) x Birth (BirthIs b)
        ≡ record s { flagged = f }
    of_flag c None = refl
    of_flag c (Some n) = refl

    of_call : (o : Option Call) → look_for s o x Birth (BirthIs b) ≡ s
    of_call None = refl
    of_call (Some c) = of_flag c s.flagged

-- ---- logs

three : (a b c : Entry) (log : List Entry) → log ++ a ∷ b ∷ c ∷ [] ≡ ((log ++ a ∷ []) ++ b ∷ []) ++ c ∷ []
three a b c [] = refl
three a b c (x ∷ log) = ap (λ (l : List Entry). x ∷ l) (three a b c log)

module _ (L : Layout) (low : 5 ≤ L.nodes) (w : ℕ) where
  -- the private slots that a log tells
  abbrev slots : List Entry → List (ℕ × Draft)
  slots log = (known_by L w log).drafts

  -- the entries leave the search, and each slot but these
  record Leaves (but : ℕ → Type 0) (old new : List Entry) : Type 0 where
    part : IsLogOf L w old
    search : search_after idle new ≡ search_after idle old
    kept : (x : ℕ) → (but x → ⊥) → get (known_by L w new).drafts x ≡ get (known_by L w old).drafts x

  -- entries for one slot, which is claimed first, and whose birth is looked at
  module _ (s t b : ℕ) (log : List Entry) where
    abbrev claimed : List Entry
    claimed = log ++ (Claim s, Claimed t) ∷ []

    abbrev looked : List Entry
    looked = (log ++ (Claim s, Claimed t) ∷ []) ++ (Look s Birth, BirthIs b) ∷ []

    slots_claimed : slots (log ++ (Claim s, Claimed t) ∷ []) ≡ put (slots log) s unfilled
    slots_claimed = ap (λ (k : Knowledge). k.drafts)
        (known_more w _ log (Claim s, Claimed t) ∙ learn_claimed w (known_by L w log) s t)

    own : is_private (known_by L w (log ++ (Claim s, Claimed t) ∷ [])) s ≡ true
    own = ap (λ m. is_some (get m s)) slots_claimed ∙ ap is_some (put_there (slots log) s unfilled)

    slots_looked : slots ((log ++ (Claim s, Claimed t) ∷ []) ++ (Look s Birth, BirthIs b) ∷ [])
        ≡ put (slots (log ++ (Claim s, Claimed t) ∷ [])) s
        (record (draft_of (known_by L w (log ++ (Claim s, Claimed t) ∷ [])) s) { looked = Some b })
    slots_looked = ap (λ (k : Knowledge). k.drafts)
        (known_more w _ claimed (Look s Birth, BirthIs b)
        ∙ (learn_look w (known_by L w claimed) s Birth (BirthIs b)
        ∙ cond-true (is_private (known_by L w claimed) s) (look_private (known_by L w claimed) s Birth (BirthIs b))
        (look_known (known_by L w claimed) s Birth (BirthIs b)) own))

    others_looked : (x : ℕ) → x ≢ s → get (slots ((log ++ (Claim s, Claimed t) ∷ []) ++ (Look s Birth, BirthIs b)
        ∷ [])) x ≡ get (slots log) x
    others_looked x ne =
        ap (λ m. get m x) slots_looked ∙ (put_another (slots claimed) s _ x ne
        ∙ (ap (λ m. get m x) slots_claimed ∙ put_another (slots log) s unfilled x ne))

    search_looked : search_after idle ((log ++ (Claim s, Claimed t) ∷ []) ++ (Look s Birth, BirthIs b) ∷ [])
        ≡ search_after idle log
    unfolding searched
    search_looked = search_more idle claimed (Look s Birth, BirthIs b)
        ∙ (birth_adds_nothing (search_after idle claimed) s b ∙ search_more idle log (Claim s, Claimed t))

  -- a slot that is claimed was not private
  was_none : (s t : ℕ) (log : List Entry) → IsLogOf L w (log ++ (Claim s, Claimed t) ∷ []) → get (slots log) s ≡ None
  was_none s t log l = none_if (get (slots log) s)
      (claims_are_new L low w log (Claim s, Claimed t) l s t refl).3.not_held
    where
      none_if : (o : Option Draft) → is_some o ≡ false → o ≡ None
      none_if None h = refl
      none_if (Some d) h = absurd (true≢false h)

  after_taken : (s : ℕ) (old new : List Entry) → IsLogOf L w new → FoundTaken s old new → Leaves (λ x. ⊥) old new
  unfolding searched
  after_taken s old new l is = record {
    part = log_before L w old (Claim s, Taken) (subst (IsLogOf L w) is l);
    search = ap (search_after idle) is ∙ search_more idle old (Claim s, Taken);
    kept = λ x ne. ap (λ log. get (slots log) x) is
        ∙ ap (λ (k : Knowledge). get k.drafts x) (known_more w _ old (Claim s, Taken)
        ∙ learn_taken w (known_by L w old) s);
  }

  after_exhausted : (s : ℕ) (old new : List Entry) → IsLogOf L w new → FoundExhausted s old new
      → Leaves (λ x. ⊥) old new
  unfolding searched
  after_exhausted s old new l is =
      let claim : Entry = (Claim s, Claimed s) in
      let look : Entry = (Look s Birth, BirthIs last_number) in
      let give : Entry = (Give s, Returned s) in
      let one : List Entry = old ++ claim ∷ [] in
      let two : List Entry = one ++ look ∷ [] in
      let at : new ≡ two ++ give ∷ [] = is ∙ three claim look give old in
      let part_two : IsLogOf L w two = log_before L w two give (subst (IsLogOf L w) at l) in
      let part_one : IsLogOf L w one = log_before L w one look part_two in
      let order : Ascends (slots two) = drafts_ascend L low w two part_two in
      let slots_now : slots new ≡ without (slots two) s = ap slots at
      ∙ ap (λ (k : Knowledge). k.drafts) (known_more w _ two give ∙ learn_returned w (known_by L w two) s s) in
      record {
        part = log_before L w old claim part_one;
        search = ap (search_after idle) at ∙ (search_more idle two give ∙ search_looked s s last_number old);
        kept = λ x ne. by x (eqb x s) refl slots_now order (was_none s s old part_one);
      }
    where
      by : (x : ℕ) (b : Bool) → eqb x s ≡ b → slots new
          ≡ without (slots ((old ++ (Claim s, Claimed s) ∷ []) ++ (Look s Birth, BirthIs last_number) ∷ [])) s
          → Ascends (slots ((old ++ (Claim s, Claimed s) ∷ []) ++ (Look s Birth, BirthIs last_number) ∷ []))
          → get (slots old) s ≡ None
          → get (slots new) x ≡ get (slots old) x
      by x true same now order none =
          let here : x ≡ s = eqb-true x s same in
          ap (λ m. get m x) now ∙ (ap (get (without (slots
          ((old ++ (Claim s, Claimed s) ∷ []) ++ (Look s Birth, BirthIs last_number) ∷ [])) s)) here
          ∙ (without_it (slots ((old ++ (Claim s, Claimed s) ∷ []) ++ (Look s Birth, BirthIs last_number) ∷ [])) s
          order ∙ (sym none ∙ ap (get (slots old)) (sym here))))
      by x false other now order none =
          let ne : x ≢ s = eqb-false x s other in
          ap (λ m. get m x) now ∙ (without_another (slots
          ((old ++ (Claim s, Claimed s) ∷ []) ++ (Look s Birth, BirthIs last_number) ∷ [])) s x order ne
          ∙ others_looked s s last_number old x ne)

  passed_over : (s : ℕ) (old new : List Entry) → IsLogOf L w new → PassedOver s old new → Leaves (λ x. ⊥) old new
  passed_over s old new l (inl taken) = after_taken s old new l taken
  passed_over s old new l (inr exhausted) = after_exhausted s old new l exhausted

  all_passed : (from n : ℕ) (old new : List Entry) → IsLogOf L w new → DoneInTurn PassedOver from n old new
      → Leaves (λ x. ⊥) old new
  all_passed from zero old new l done = record {
    part = subst (IsLogOf L w) done l;
    search = ap (search_after idle) done;
    kept = λ x ne. ap (λ log. get (slots log) x) done;
  }
  all_passed from (suc n) old new l done =
      let last = passed_over (from + n) done.0 new l done.2 in
      let first = all_passed from n old done.0 last.part done.1 in
      record {
        part = first.part;
        search = last.search ∙ first.search;
        kept = λ x ne. last.kept x ne ∙ first.kept x ne;
      }

  all_passed_at : (nodes : ℕ) (them : List ℕ) (old new : List Entry) → IsLogOf L w new
      → DoneAt (PassedWithin nodes) them old new → Leaves (λ x. ⊥) old new
  all_passed_at nodes [] old new l done = record {
    part = subst (IsLogOf L w) done l;
    search = ap (search_after idle) done;
    kept = λ x ne. ap (λ log. get (slots log) x) done;
  }
  all_passed_at nodes (s ∷ them) old new l done =
      let last = passed_over s done.0 new l done.2.2 in
      let first = all_passed_at nodes them old done.0 last.part done.1 in
      record {
        part = first.part;
        search = last.search ∙ first.search;
        kept = λ x ne. last.kept x ne ∙ first.kept x ne;
      }

  after_made : (n : NodeId) (old new : List Entry) → IsLogOf L w new → MadeNew n old new
      → Leaves (λ x. x ≡ n.slot) old new
  unfolding searched
  after_made n old new l made =
      let s : ℕ = n.slot in
      let b : ℕ = made.birth in
      let claim : Entry = (Claim s, Claimed s) in
      let look : Entry = (Look s Birth, BirthIs b) in
      let fill : Entry = (Fill s Birth (b + 1), Filled) in
      let one : List Entry = old ++ claim ∷ [] in
      let two : List Entry = one ++ look ∷ [] in
      let at : new ≡ two ++ fill ∷ [] = made.entries ∙ three claim look fill old in
      let part_two : IsLogOf L w two = log_before L w two fill (subst (IsLogOf L w) at l) in
      let part_one : IsLogOf L w one = log_before L w one look part_two in
      let slots_now : slots new ≡ put (slots two) s (filled_in (draft_of (known_by L w two) s) Birth (b + 1)) = ap
      slots at ∙ ap (λ (k : Knowledge). k.drafts) (known_more w _ two fill
      ∙ learn_filled w (known_by L w two) s Birth (b + 1)) in
      record {
        part = log_before L w old claim part_one;
        search = ap (search_after idle) at ∙ (search_more idle two fill ∙ search_looked s s b old);
        kept = λ x ne. ap (λ m. get m x) slots_now ∙ (put_another (slots two) s
            (filled_in (draft_of (known_by L w two) s) Birth (b + 1)) x ne ∙ others_looked s s b old x ne);
      }

-- ---- the log is of a run

-- the log ends with an entry that is no join
record EndsWith (log : List Entry) : Type 0 where
  before : List Entry
  event : Event
  reply : Reply
  is : log ≡ before ++ (event, reply) ∷ []
  other : is_join event ≡ false

ends_over : (s : ℕ) (old new : List Entry) → PassedOver s old new → EndsWith new
ends_over s old new (inl taken) = record { before = old; event = Claim s; reply = Taken; is = taken; other = refl }
ends_over s old new (inr exhausted) = record {
  before = (old ++ (Claim s, Claimed s) ∷ []) ++ (Look s Birth, BirthIs last_number) ∷ [];
  event = Give s;
  reply = Returned s;
  is = exhausted ∙ three (Claim s, Claimed s) (Look s Birth, BirthIs last_number) (Give s, Returned s) old;
  other = refl;
}

ends_at : (nodes : ℕ) (slots : List ℕ) (old new : List Entry) → DoneAt (PassedWithin nodes) slots old new
    → (new ≡ old) ⊎ EndsWith new
ends_at nodes [] old new done = inl done
ends_at nodes (s ∷ slots) old new done = inr (ends_over s done.0 new done.2.2)

-- the log of a pass that is in a run is a part of one, by what it was before
pub part_after : (p q : PassView) → IsSamePass p q → IsInRun q → IsLogOf p.view.layout p.view.number q.view.log
part_after p q same run = subst (λ (s : PassView). IsLogOf s.view.layout s.view.number q.view.log) same run.run.is_part

module _ (p q : PassView) (f : Fit) (nodes : ℕ) (o : Option NodeId) (same : IsSamePass p q)
    (is : IsClaimBy f nodes p.view.log q.view.log o) (run : IsInRun p) where
  module _ (part : IsLogOf p.view.layout p.view.number q.view.log) where
    abbrev low : 5 ≤ p.view.layout.nodes
    low = enough p.view.layout run.fits

    same_knowledge : knowledge q.view ≡ known_by p.view.layout p.view.number q.view.log
    same_knowledge = ap (λ (s : PassView). known_by s.view.layout s.view.number q.view.log) same

    but : Option NodeId → ℕ → Type 0
    but None x = ⊥
    but (Some n) x = x ≡ n.slot

    made_after : (n : NodeId) (before : List Entry)
        → (IsLogOf p.view.layout p.view.number before → Leaves p.view.layout low p.view.number (λ x. ⊥) p.view.log
        before) → MadeNew n before q.view.log
        → Leaves p.view.layout low p.view.number (but (Some n)) p.view.log q.view.log
    unfolding but
    made_after n before passed made =
        let last = after_made p.view.layout low p.view.number n before q.view.log part made in
        let first = passed last.part in
        record {
          part = first.part;
          search = last.search ∙ first.search;
          kept = λ x ne. last.kept x ne ∙ first.kept x (λ none. none);
        }

    leaves : (f : Fit) (o : Option NodeId) → IsClaimBy f nodes p.view.log q.view.log o
        → Leaves p.view.layout low p.view.number (but o) p.view.log q.view.log
    unfolding but
    leaves fit.FirstFit None is = all_passed p.view.layout low p.view.number 6 (nodes + 1 - 6) p.view.log q.view.log
        part is
    leaves fit.FirstFit (Some n) is = made_after n is.before
        (λ l. all_passed p.view.layout low p.view.number 6 (n.slot - 6) p.view.log is.before l is.passed) is.made
    leaves fit.NextFit None is = all_passed_at p.view.layout low p.view.number nodes is.slots p.view.log q.view.log
        part is.passed
    leaves fit.NextFit (Some n) is = made_after n is.before
        (λ l. all_passed_at p.view.layout low p.view.number nodes is.slots p.view.log is.before l is.passed) is.made

    then_leaves : Leaves p.view.layout low p.view.number (but o) p.view.log q.view.log
    then_leaves = leaves f o is

    pub claim_keeps : KeepsAllBut o p q
    unfolding but
    claim_keeps x other = ap (λ (k : Knowledge). get k.drafts x) same_knowledge ∙ then_leaves.kept x (not_it o other)
      where
        not_it : (o : Option NodeId) → IfSome o (λ node. x ≢ node.slot) → but o x → ⊥
        not_it None h none = none
        not_it (Some n) h at = h at

    pub only_claims : LearnsSlots (knowledge p.view) (knowledge q.view) → OnlyMakes p q
    only_claims learned = record {
      epochs = learned.brief;
      known = learned.known;
      ledgers = learned.ledgers;
      search =
          then_leaves.search;
    }

-- ---- giving a slot back

module _ (p q : PassView) (s : ℕ) (step : Stepped p q (Give s) (Returned s)) where
  returned : knowledge q.view ≡ record (knowledge p.view) { drafts = without (knowledge p.view).drafts s }
  returned = known_after_step p q (Give s) (Returned s) step ∙ learn_returned p.view.number (knowledge p.view) s s

  pub only_given : OnlyMakes p q
  unfolding searched
  only_given = makes p q (without (knowledge p.view).drafts s) returned (search_then p q (Give s) (Returned s) step)

  module _ (run : IsInRun p) where
    order : Ascends (knowledge p.view).drafts
    order = drafts_ascend p.view.layout (enough p.view.layout run.fits) p.view.number p.view.log run.run.is_part

    pub is_given : is_private (knowledge q.view) s ≡ false
    is_given = ap (λ (k : Knowledge). is_private k s) returned
        ∙ ap is_some (without_it (knowledge p.view).drafts s order)

    pub given_others : KeepsOtherSlots s p q
    given_others x ne = ap (λ (k : Knowledge). get k.drafts x) returned
        ∙ without_another (knowledge p.view).drafts s x order ne
