-- An exchange that a call may win once, a link or a flag: a worker's log since its pin has one
-- where the search says so, and none elsewhere; and that one was won at a moment of the run, under
-- the pin that stands.
use Rattle.std.proofs.Common.{◌≡◌, ℕ, suc, ◌+◌, ◌≤◌, inl, inr, ◌⊎◌, Bool, true, false, cond, ◌||◌, List, [], ◌∷◌, ◌++◌, length, refl, sym, ap, subst, ◌∙◌, arith, true≢false, length-append}
use Rattle.std.specs.Prelude.{filter, Some, None, Ok, All}
use Rattle.std.specs.List.{list_any}
use Rattle.std.proofs.lemmas.List.Elements.{filter-append}
use Rattle.nm_edge.specs.Layouts.{Layout}
use Rattle.nm_model.specs.declared.event.Op.{Op}
use Rattle.nm_model.specs.declared.event.Event.{Event}
use Rattle.nm_model.specs.declared.reply.Reply.{Reply}
use Rattle.nm_model.specs.declared.arrivals.Call.{Call}
use Rattle.nm_model.specs.Knowledge.{Knowledge}
use Rattle.nm_model.specs.Runs.{of}
use Rattle.nm_model.specs.Searches.{Search, searched}
use Rattle.nm_model.specs.Walks.{Entry, log_of, begins_anew, since_pin}
use Rattle.nm_model.specs.Ordered.{Configuration, disorder, next_in, outcome_in, after_in, trace_in}
use Rattle.nm_order.specs.Intervals.{HasKey}
use Rattle.nm_order.specs.Moments.{PinStands}
use Rattle.nm_laws.proofs.SearchesGrow.{only_grow}
use Rattle.nm_order.proofs.OrderedLaws.{IsOrdered, ordered_next}
use Rattle.nm_order.proofs.RunMoments.{entries, stands_behind}
use Rattle.nm_order.proofs.OwnTurns.{own_search, OwnTurn, own_turn, call_stays}
use Rattle.nm_order.proofs.OwnTurns.OwnTurn.{Quiet, Own}

-- entries of a log by which a search gets a mark, which it has under the pin from then on; only a
-- call of one operation without the mark may have them
pub record IsOnce (is_such : Entry → Bool) (did : Search → Bool) (op : Op) : Type 0 where
  pub anew : (S : Search) (e : Event) (r : Reply) → begins_anew (e, r) ≡ true → did (searched S e r) ≡ false
  pub kept : (S : Search) (e : Event) (r : Reply) → begins_anew (e, r) ≡ false → is_such (e, r) ≡ false
      → did (searched S e r) ≡ did S
  pub done : (S : Search) (e : Event) (r : Reply) → is_such (e, r) ≡ true → did (searched S e r) ≡ true
  pub once : (K : Layout) (k : Knowledge) (S : Search) (e : Event) (r : Reply) → disorder K k S e ≡ None
      → is_such (e, r) ≡ true → did S ≡ false
  pub of_op : (K : Layout) (k : Knowledge) (S : Search) (e : Event) (r : Reply) → disorder K k S e ≡ None
      → is_such (e, r) ≡ true → (call : Call) → S.call ≡ Some call → call.op ≡ op

module _ (is_such : Entry → Bool) (did : Search → Bool) (op : Op) (o : IsOnce is_such did op) where
  -- the log since the pin has one, where the search has the mark; and the call is of that operation
  pub record Counted (S : Search) (so_far : List Entry) : Type 0 where
    pub number : length (filter is_such so_far) ≡ cond (did S) 1 0
    pub is_op : did S ≡ true → (call : Call) → S.call ≡ Some call → call.op ≡ op

  one_more : (xs : List Entry) (x : Entry) → length (filter is_such (xs ++ x ∷ []))
      ≡ length (filter is_such xs) + cond (is_such x) 1 0
  one_more xs x = ap length (filter-append is_such xs (x ∷ []))
      ∙ (length-append (filter is_such xs) (filter is_such (x ∷ []))
      ∙ ap (λ (n : ℕ). length (filter is_such xs) + n) (by (is_such x)))
    where
      by : (b : Bool) → length (cond b (x ∷ []) []) ≡ cond b 1 0
      by true = refl
      by false = refl

  counted_step : (K : Layout) (k : Knowledge) (S : Search) (e : Event) (r : Reply) (so_far : List Entry)
      → disorder K k S e ≡ None → Counted S so_far → Counted (searched S e r)
      (cond (begins_anew (e, r)) [] (so_far ++ (e, r) ∷ []))
  counted_step K k S e r so_far order c = go (begins_anew (e, r)) refl
    where
      grown : (b : Bool) → is_such (e, r) ≡ b → begins_anew (e, r) ≡ false
          → Counted (searched S e r) (so_far ++ (e, r) ∷ [])
      grown true such stands = record {
        number = one_more so_far (e, r) ∙ (ap (λ (n : ℕ). n + cond (is_such (e, r)) 1 0)
            (c.number ∙ ap (λ (b : Bool). cond b 1 0) (o.once K k S e r order such))
            ∙ (ap (λ (b : Bool). 0 + cond b 1 0) such ∙ sym (ap (λ (b : Bool). cond b 1 0) (o.done S e r such))));
        is_op = λ has call is. o.of_op K k S e r order such call (sym (only_grow S e r stands).call ∙ is);
      }
      grown false plain stands = record {
        number = one_more so_far (e, r) ∙ (ap (λ (b : Bool). length (filter is_such so_far) + cond b 1 0) plain
            ∙ (plus_none (length (filter is_such so_far))
            ∙ (c.number ∙ sym (ap (λ (b : Bool). cond b 1 0) (o.kept S e r stands plain)))));
        is_op = λ has call is. c.is_op (sym (o.kept S e r stands plain) ∙ has) call
            (sym (only_grow S e r stands).call ∙ is);
      }
        where
          plus_none : (n : ℕ) → n + 0 ≡ n
          plus_none n = omega arith

      go : (b : Bool) → begins_anew (e, r) ≡ b → Counted (searched S e r) (cond b [] (so_far ++ (e, r) ∷ []))
      go true anew = record {
        number = sym (ap (λ (b : Bool). cond b 1 0) (o.anew S e r anew));
        is_op = λ has call is. absurd (true≢false (sym has ∙ o.anew S e r anew));
      }
      go false stands = grown (is_such (e, r)) refl stands

  module _ (L : Layout) (enough : 5 ≤ L.nodes) (w : ℕ) where
    pub counted_after : (turns : List (ℕ × Event)) → All (λ t. HasKey t.1) turns → (c : Configuration)
        → IsOrdered L c → (so_far : List Entry) → Counted (own_search c w) so_far
        → Counted (own_search (after_in c turns) w) (since_pin so_far (log_of w (trace_in c turns)))
    unfolding after_in trace_in
    counted_after [] keys c l so_far counted = counted
    counted_after (t ∷ ts) keys c l so_far counted =
        by (own_turn L w c t l) (λ far now. counted_after ts (λ k d below. keys (suc k) d (omega arith))
        (next_in c t) (ordered_next L enough c t (keys 0 t (omega arith)) l) far now)
      where
        Rest : Type 0
        Rest = (far : List Entry) → Counted (own_search (next_in c t) w) far
            → Counted (own_search (after_in (next_in c t) ts) w) (since_pin far (log_of w (trace_in (next_in c t) ts)))

        by : OwnTurn w c t → Rest → Counted (own_search (after_in (next_in c t) ts) w)
            (since_pin so_far (entries w c t ++ log_of w (trace_in (next_in c t) ts)))
        by (Quiet same none) rest =
            subst (λ (es : List Entry). Counted (own_search (after_in (next_in c t) ts) w)
            (since_pin so_far (es ++ log_of w (trace_in (next_in c t) ts)))) (sym none)
            (rest so_far (subst (λ (S : Search). Counted S so_far) (sym same) counted))
        by (Own r is won here learned order) rest =
            subst (λ (es : List Entry). Counted (own_search (after_in (next_in c t) ts) w)
            (since_pin so_far (es ++ log_of w (trace_in (next_in c t) ts)))) (sym here)
            (rest (cond (begins_anew (t.1, r)) [] (so_far ++ (t.1, r) ∷ []))
            (subst (λ (S : Search). Counted S (cond (begins_anew (t.1, r)) [] (so_far ++ (t.1, r) ∷ [])))
            (sym learned) (counted_step c.state.layout (of c.state w) (own_search c w) t.1 r so_far order counted)))

    -- ---- the moment

    -- at that moment of a run the worker won it, in order, and its pin and its call stand since
    pub record WonAt (c : Configuration) (turns : List (ℕ × Event)) : Type 0 where
      pub before : List (ℕ × Event)
      pub turn : ℕ × Event
      pub since : List (ℕ × Event)
      pub is_run : turns ≡ before ++ turn ∷ since
      pub own : turn.0 ≡ w
      pub reply : Reply
      pub such : is_such (turn.1, reply) ≡ true
      pub won : outcome_in (after_in c before) turn ≡ Ok reply
      pub order : disorder (after_in c before).state.layout (of (after_in c before).state w)
          (own_search (after_in c before) w) turn.1 ≡ None
      pub stands : PinStands w (trace_in (next_in (after_in c before) turn) since)
      pub same_call : (own_search (after_in c turns) w).call ≡ (own_search (after_in c before) w).call

    abbrev Won : Configuration → List (ℕ × Event) → Type 0
    Won c turns = ((did (own_search c w) ≡ true) × PinStands w (trace_in c turns)) ⊎ WonAt c turns

    -- what a search has at the end, it had at first, or it got it since
    pub won_in : (turns : List (ℕ × Event)) → All (λ t. HasKey t.1) turns → (c : Configuration) → IsOrdered L c
        → did (own_search (after_in c turns) w) ≡ true → Won c turns
    unfolding after_in trace_in
    won_in [] keys c l has = inl (has, refl)
    won_in (t ∷ ts) keys c l has = on (won_in ts keys' (next_in c t) l' has)
      where
        keys' : All (λ t. HasKey t.1) ts
        keys' = λ k d below. keys (suc k) d (omega arith)

        l' : IsOrdered L (next_in c t)
        l' = ordered_next L enough c t (keys 0 t (omega arith)) l

        first : did (own_search (next_in c t) w) ≡ true → PinStands w (trace_in (next_in c t) ts) → OwnTurn w c t
            → Won c (t ∷ ts)
        first had stands (Quiet same none) = inl (
          ap did (sym same)
              ∙ had,
          stands_behind w c t ts (ap (list_any begins_anew) none) stands,
        )
        first had stands (Own r is won here learned order) = by (begins_anew (t.1, r)) refl (is_such (t.1, r)) refl
          where
            now : did (searched (own_search c w) t.1 r) ≡ true
            now = ap did (sym learned) ∙ had

            by : (b : Bool) → begins_anew (t.1, r) ≡ b → (d : Bool) → is_such (t.1, r) ≡ d → Won c (t ∷ ts)
            by true anew d such = absurd (true≢false (sym now ∙ o.anew (own_search c w) t.1 r anew))
            by false old true such = inr (record {
              before = [];
              turn = t;
              since = ts;
              is_run = refl;
              own = is;
              reply = r;
              such = such;
              won = won;
              order = order;
              stands = stands;
              same_call = call_stays L enough w ts keys' (next_in c t) l' stands
                  ∙ (ap (λ (S : Search). S.call) learned ∙ (only_grow (own_search c w) t.1 r old).call);
            })
            by false old false plain = inl (
              sym (o.kept (own_search c w) t.1 r old plain)
                  ∙ now,
              stands_behind w c t ts (ap (list_any begins_anew) here ∙ ap (λ (b : Bool). b || false) old) stands,
            )

        on : Won (next_in c t) ts → Won c (t ∷ ts)
        on (inl still) = first still.0 still.1 (own_turn L w c t l)
        on (inr was) = inr (record {
          before = t ∷ was.before;
          turn = was.turn;
          since = was.since;
          is_run = ap (λ (l : List (ℕ × Event)). t ∷ l) was.is_run;
          own = was.own;
          reply = was.reply;
          such = was.such;
          won = was.won;
          order = was.order;
          stands = was.stands;
          same_call = was.same_call;
        })
