-- A look that was right at a moment of a run was right at one by its turns, at which its worker was
-- pinned.
use Rattle.std.proofs.Common.{◌≡◌, ◌⊎◌, inl, inr, ℕ, ◌==◌, Bool, true, false, cond, ◌&&◌, ◌||◌, List, [], ◌∷◌, length, refl, sym, ap, subst, ◌∙◌, arith, true≢false}
use Rattle.std.specs.Prelude.{Option, None, IsSome, Result, Ok, Err}
use Rattle.std.specs.List.{list_any}
use Rattle.std.proofs.lemmas.Bool.{eqb-true}
use Rattle.nm_edge.specs.Layouts.{Layout, IsLayout}
use Rattle.nm_model.specs.declared.event.Event.{Event}
use Rattle.nm_model.specs.declared.event.Event.TheVariants.{Sight, SightFor, Leave, LeaveWith}
use Rattle.nm_model.specs.declared.event.Op.TheVariants.{Has}
use Rattle.nm_model.specs.declared.reply.Reply.{Reply}
use Rattle.nm_model.specs.declared.reply.Reply.TheVariants.{Pinned, Departed}
use Rattle.nm_model.specs.declared.reply.Refused.{Refused}
use Rattle.nm_model.specs.declared.trace.Turn.{Turn}
use Rattle.nm_model.specs.Memory.{Memory}
use Rattle.nm_model.specs.Ordered.{ordered, after_in, trace_in}
use Rattle.nm_model.specs.Walks.{Entry, logged_by, log_of}
use Rattle.nm_model.specs.Headline.{confirms, departs, leaves, HasLeft, IsPinned}
use Rattle.nm_model.specs.Acts.{InSet, Gives}
use Rattle.nm_order.specs.Pinned.{pinned_by, pinned_after}
use Rattle.nm_order.specs.WalkAnswers.{WasSoSince}
use Rattle.nm_order.proofs.PinNumbers.{length_trace}
use Rattle.nm_order.proofs.PinsOfLogs.{pinned_join}
use Rattle.nm_order.proofs.WalksOfRuns.{trace_in-append}
use Rattle.nm_model.specs.Histories.{WasSoBehind}
use Rattle.nm_theorem.proofs.GraceOfRuns.{pin_is}
use Rattle.nm_theorem.proofs.WrittenWords.{run_words}

-- a pin behind an entry was confirmed by it, or stood before and was not left
entry_was : (pin : Option ℕ) (v : Event) (r : Reply) → IsSome (pinned_by pin (v, r))
    → (confirms v (Ok r) ≡ true) ⊎ (IsSome pin × (departs v (Ok r) ≡ false))
entry_was pin Sight (Pinned n) some' = inl refl
entry_was pin (SightFor op key) (Pinned n) some' = inl refl
entry_was pin Leave Departed some' = absurd (true≢false (sym some'))
entry_was pin (LeaveWith answer) Departed some' = absurd (true≢false (sym some'))
entry_was pin v r some' = inr (some', refl)

module _ (w : ℕ) where
  abbrev Stood : Option ℕ → Turn → Type 0
  Stood pin t = ((t.worker ≡ w) × (confirms t.event t.outcome ≡ true)) ⊎ (IsSome pin × (leaves w t ≡ false))

  turn_was : (pin : Option ℕ) (t : Turn) → IsSome (pinned_after pin (cond (t.worker == w) (logged_by t) []))
      → Stood pin t
  turn_was pin t some' = by (t.worker == w) refl t.outcome refl some'
    where
      by : (b : Bool) → (t.worker == w) ≡ b → (o : Result Reply Refused) → t.outcome ≡ o
          → IsSome (pinned_after pin (cond b (logged_by (record { worker = t.worker; event = t.event; outcome = o }))
          [])) → Stood pin t
      by false own o is s = inr (s, ap (λ (b : Bool). b && departs t.event t.outcome) own)
      by true own (Err x) is s = inr (s, none_left (t.worker == w) t.event t.outcome x is)
        where
          none_left : (b : Bool) (e : Event) (o : Result Reply Refused) (x : Refused) → o ≡ Err x
              → (b && departs e o) ≡ false
          none_left b e o x is = ap (λ (q : Result Reply Refused). b && departs e q) is ∙ refused b e
            where
              refused : (b : Bool) (e : Event) → (b && departs e (Err x)) ≡ false
              refused false e = refl
              refused true Leave = refl
              refused true (LeaveWith answer) = refl
              refused true e = refl
      by true own (Ok r) is s = go (entry_was pin t.event r s)
        where
          go : (confirms t.event (Ok r) ≡ true) ⊎ (IsSome pin × (departs t.event (Ok r) ≡ false)) → Stood pin t
          go (inl pins) = inl (eqb-true t.worker w own, ap (confirms t.event) is ∙ pins)
          go (inr (some'', stays)) = inr (some'', (λ i. own i && departs t.event (is i)) ∙ stays)

  -- so where the log leaves a pin, it stood at first and was not left, or these turns confirm it
  pinned_at : (ts : List Turn) (pin : Option ℕ) → IsSome (pinned_after pin (log_of w ts))
      → (IsSome pin × (HasLeft w ts → ⊥)) ⊎ IsPinned w ts
  pinned_at [] pin some' = inl (some', λ left. true≢false (sym left))
  pinned_at (t ∷ ts) pin some' =
      let entry : List Entry = cond (t.worker == w) (logged_by t) [] in
      by (pinned_at ts (pinned_after pin entry) (subst IsSome (pinned_join pin entry (log_of w ts)) some'))
    where
      not_left : leaves w t ≡ false → (HasLeft w ts → ⊥) → HasLeft w (t ∷ ts) → ⊥
      not_left stays none left = none (sym (ap (λ (b : Bool). b || list_any (leaves w) ts) stays) ∙ left)

      by : (IsSome (pinned_after pin (cond (t.worker == w) (logged_by t) [])) × (HasLeft w ts → ⊥)) ⊎ IsPinned w ts
          → (IsSome pin × (HasLeft w (t ∷ ts) → ⊥)) ⊎ IsPinned w (t ∷ ts)
      by (inr p) = inr (record {
        before = t ∷ p.before;
        sight = p.sight;
        since = p.since;
        are = ap
            (λ (us : List Turn). t ∷ us) p.are;
        own = p.own;
        pins = p.pins;
        stays = p.stays;
      })
      by (inl (stood, none)) = go (turn_was pin t stood)
        where
          go : Stood pin t → (IsSome pin × (HasLeft w (t ∷ ts) → ⊥)) ⊎ IsPinned w (t ∷ ts)
          go (inl (own, pins)) = inr (record {
            before = [];
            sight = t;
            since = ts;
            are = refl;
            own = own;
            pins =
                pins;
            stays = none;
          })
          go (inr (some'', stays)) = inl (some'', not_left stays none)

  abbrev no_pin : Option ℕ
  no_pin = None

  pub pinned_by_turns : (ts : List Turn) → IsSome (pinned_after None (log_of w ts)) → IsPinned w ts
  pinned_by_turns ts some' = go (pinned_at ts no_pin some')
    where
      go : (IsSome no_pin × (HasLeft w ts → ⊥)) ⊎ IsPinned w ts → IsPinned w ts
      go (inl (none, left)) = absurd (true≢false (sym none))
      go (inr p) = p

-- by the turns of a run
pub was_behind : (L : Layout) → IsLayout L → (past events : List (ℕ × Event)) (was now : List Turn)
    → length was ≡ length past → now ≡ trace_in (ordered L) events → (w k : ℕ) (answer : Bool)
    → WasSoSince L past events w k answer → WasSoBehind L was now w k answer
was_behind L fits past events was now long are w k answer s = record {
  so_far = trace_in (ordered L) s.before;
  rest = trace_in (after_in (ordered L) s.before) s.since;
  are = are ∙ (ap (trace_in (ordered L)) s.is_run ∙ trace_in-append (ordered L) s.before s.since);
  later = let t = length_trace (ordered L) s.before in let l = s.later in omega (arith, t, l, long);
  pinned = pinned_by_turns w (trace_in (ordered L) s.before)
      (subst (λ (o : Option ℕ). IsSome o) (sym s.pinned.1 ∙ pin_is L fits true s.before w) refl);
  gives = subst (λ (m : Memory). Gives (InSet m) Has k answer) (sym (run_words L fits true s.before)) s.gives;
}
