-- While nothing is linked or cut off, each reached node stays, with its key and the slots to which
-- its edges lead; and no path is longer than there are slots.
use Rattle.std.proofs.Common.{◌≡◌, inl, inr, ◌≢◌, ℕ, suc, ◌+◌, ◌≤◌, eqb, ◌==◌, Bool, true, false, cond, not, ◌&&◌, List, length, [], ◌∷◌, ◌++◌, append_assoc, refl, sym, ap, subst, ◌∙◌, arith, true≢false}
use Rattle.std.specs.Prelude.{Result, Ok, Err, All}
use Rattle.std.specs.List.{list_any}
use Rattle.std.proofs.lemmas.Bool.{or_parts, ne_eqb}
use Rattle.std.proofs.lemmas.List.{append-nil}
use Rattle.nm_edge.specs.Edges.{Edge}
use Rattle.nm_edge.specs.Layouts.{Layout}
use Rattle.nm_edge.specs.declared.edge.Side.{Side}
use Rattle.nm_edge.specs.declared.node.NodeId.{NodeId}
use Rattle.nm_model.specs.declared.event.Field.TheVariants.{Key as KeyOf, Edge as EdgeOn}
use Rattle.nm_model.specs.declared.event.Event.{Event}
use Rattle.nm_model.specs.declared.event.Event.TheVariants.{Look, Link, Splice, Swap}
use Rattle.nm_model.specs.declared.reply.Reply.{Reply}
use Rattle.nm_model.specs.declared.reply.Reply.TheVariants.{KeyIs, EdgeIs, Cut}
use Rattle.nm_model.specs.declared.reply.Refused.{Refused}
use Rattle.nm_model.specs.declared.trace.Turn.{Turn}
use Rattle.nm_model.specs.Memory.{edge, child}
use Rattle.nm_model.specs.Paths.{follow, Reached}
use Rattle.nm_model.specs.Step.{reply}
use Rattle.nm_model.specs.Runs.{State, reply_of}
use Rattle.nm_model.specs.Walks.{Entry, logged_by, log_of}
use Rattle.nm_model.specs.Ordered.{Configuration, next_in, outcome_in, after_in, trace_in}
use Rattle.nm_laws.proofs.Configurations.{after_in-append}
use Rattle.nm_laws.proofs.Trees.{follow-append, follow_none, append_cancel}
use Rattle.nm_laws.proofs.Pictures.{alone, reached_within}
use Rattle.nm_laws.proofs.Views.{picture}
use Rattle.nm_order.specs.Intervals.{HasKey, key}
use Rattle.nm_order.specs.Logs.{part_of}
use Rattle.nm_order.proofs.OrderedLaws.{IsOrdered, ordered_next, law_of_state}
use Rattle.nm_order.proofs.RunExchanges.{first_keys}
use Rattle.nm_order.proofs.WalksOfRuns.{trace_in-append}
use Rattle.nm_order.proofs.CutTurns.{uncut_stays, cut_is}
use Rattle.nm_laws.proofs.Stays.{SpliceOrSwap}
use Rattle.nm_order.proofs.OrderedMoments.{Lasting}
use Rattle.nm_order.proofs.SetChanges.{turn_lasts}
use Rattle.nm_order.proofs.ToldLaws.{key_told}
use Rattle.nm_order.proofs.FrozenChains.{Within, Apart, Distinct, few}
use Rattle.nm_progress.specs.Moves.{number_of}
use Rattle.nm_progress.specs.Paid.{links_on, cuts_on}
use Rattle.nm_progress.specs.Tries.{reshapes, reshapes_of_others}
use Rattle.nm_progress.proofs.EdgeFates.{EdgeFate, TurnFate, turn_fates}
use Rattle.nm_progress.proofs.EdgeFates.EdgeFate.{Kept, IsLinked, IsFlagged, IsTagged, IsSpliced, IsSwapped}
use Rattle.nm_progress.proofs.EdgeFates.TurnFate.{Refuses, Makes}
use Rattle.nm_progress.proofs.LostTries.{later_keys}
use Rattle.nm_progress.proofs.SplitTurns.{SplitTurn, split_turn, number_split, number-append, ordered_after}
use Rattle.nm_progress.proofs.TagsPaid.{unheld}
use Rattle.nm_progress.proofs.Covers.{one_if}

abbrev pub is_reshape : Turn → Bool
is_reshape t = reshapes t.event t.outcome

-- ---- one turn, and many, that link nothing and cut nothing

module _ (L : Layout) (enough : 5 ≤ L.nodes) where
  -- what stays of a reached node
  pub record StaysThere (c d : Configuration) (y : ℕ) : Type 0 where
    pub reached : Reached d.state.memory y
    pub leads : (g : Side) → child d.state.memory y g ≡ child c.state.memory y g
    pub key_is : key d.state.memory y ≡ key c.state.memory y
    pub tags : (g : Side) → child c.state.memory y g ≢ 0 → (edge c.state.memory y g).tag ≡ true
        → (edge d.state.memory y g).tag ≡ true

  calm_turn : (c : Configuration) (t : ℕ × Event) → HasKey t.1 → IsOrdered L c
      → reshapes t.1 (outcome_in c t) ≡ false → (y : ℕ) → Reached c.state.memory y → StaysThere c (next_in c t) y
  calm_turn c t has o calm y r = record {
    reached = uncut_stays L enough c t o uncut y r;
    leads = λ g. fate g (turn_fates L enough c t o y g (unheld L enough c t has o y r));
    key_is = ap (λ (l : Lasting). l.key) (turn_lasts L enough c t has o y r);
    tags = λ g some was. marked g some was (turn_fates L enough c t o y g (unheld L enough c t has o y r));
  }
    where
      none : (links_on t.1 (outcome_in c t) ≡ false) × (cuts_on t.1 (outcome_in c t) ≡ false)
      none = or_parts (links_on t.1 (outcome_in c t)) (cuts_on t.1 (outcome_in c t)) calm

      uncut : (ns : List NodeId) → outcome_in c t ≡ Ok (Cut ns) → ⊥
      uncut ns is = by (cut_is L enough c t o ns is)
        where
          by : SpliceOrSwap t.1 → ⊥
          by (inl s) = true≢false ((λ i. cuts_on (sym s.5 i) (sym is i)) ∙ none.1)
          by (inr s) = true≢false ((λ i. links_on (sym s.4 i) (sym is i)) ∙ none.0)

      on : (g : Side) (q : Reply) → outcome_in c t ≡ Ok q → EdgeFate c.state t.0 t.1 (next_in c t).state.memory q y g
          → child (next_in c t).state.memory y g ≡ child c.state.memory y g
      on g q told (Kept same) = ap (λ (e : Edge). e.slot) same
      on g q told (IsLinked l m n e answer was now) = absurd
          (true≢false ((λ i. links_on (sym e i) ((ap (λ (q : Reply). Ok q) (sym answer) ∙ sym told) i)) ∙ none.0))
      on g q told (IsFlagged l n e answer was now) = ap (λ (e : Edge). e.slot) now ∙ sym (ap (λ (e : Edge). e.slot) was)
      on g q told (IsTagged e answer now) = ap (λ (e : Edge). e.slot) now
      on g q told (IsSpliced a b n ns e answer was now) = absurd
          (true≢false ((λ i. cuts_on (sym e i) ((ap (λ (q : Reply). Ok q) (sym answer) ∙ sym told) i)) ∙ none.1))
      on g q told (IsSwapped l m ns e answer was now) =
          absurd (true≢false ((λ i. links_on (sym e i) ((ap (λ (q : Reply). Ok q) (sym answer) ∙ sym told) i))
          ∙ none.0))

      tag_on : (g : Side) (q : Reply) → outcome_in c t ≡ Ok q → child c.state.memory y g ≢ 0
          → (edge c.state.memory y g).tag ≡ true → EdgeFate c.state t.0 t.1 (next_in c t).state.memory q y g
          → (edge (next_in c t).state.memory y g).tag ≡ true
      tag_on g q told some tag (Kept same) = ap (λ (e : Edge). e.tag) same ∙ tag
      tag_on g q told some tag (IsLinked l m n e answer was now) = absurd
          (true≢false ((λ i. links_on (sym e i) ((ap (λ (q : Reply). Ok q) (sym answer) ∙ sym told) i)) ∙ none.0))
      tag_on g q told some tag (IsFlagged l n e answer was now) = absurd
          (true≢false (sym tag ∙ ap (λ (e : Edge). e.tag) was))
      tag_on g q told some tag (IsTagged e answer now) = ap (λ (e : Edge). e.tag) now
          ∙ ap not (ne_eqb (child c.state.memory y g) 0 some)
      tag_on g q told some tag (IsSpliced a b n ns e answer was now) = absurd
          (true≢false ((λ i. cuts_on (sym e i) ((ap (λ (q : Reply). Ok q) (sym answer) ∙ sym told) i)) ∙ none.1))
      tag_on g q told some tag (IsSwapped l m ns e answer was now) =
          absurd (true≢false ((λ i. links_on (sym e i) ((ap (λ (q : Reply). Ok q) (sym answer) ∙ sym told) i))
          ∙ none.0))

      marked : (g : Side) → child c.state.memory y g ≢ 0 → (edge c.state.memory y g).tag ≡ true → TurnFate c t y g
          → (edge (next_in c t).state.memory y g).tag ≡ true
      marked g some tag (Refuses q e same) = ap (λ (d : Configuration). (edge d.state.memory y g).tag) same ∙ tag
      marked g some tag (Makes q e f) = tag_on g q e some tag f

      fate : (g : Side) → TurnFate c t y g → child (next_in c t).state.memory y g ≡ child c.state.memory y g
      fate g (Refuses q e same) = ap (λ (d : Configuration). child d.state.memory y g) same
      fate g (Makes q e f) = on g q e f

  calm_parts : (b : Bool) (n : ℕ) → cond b 1 0 + n ≡ 0 → (b ≡ false) × (n ≡ 0)
  calm_parts true n is = absurd (omega (arith, is))
  calm_parts false n is = (refl, omega (arith, is))

  pub calm_turns : (ts : List (ℕ × Event)) → All (λ t. HasKey t.1) ts → (c : Configuration) → IsOrdered L c
      → number_of is_reshape (trace_in c ts) ≡ 0 → (y : ℕ) → Reached c.state.memory y → StaysThere c (after_in c ts) y
  unfolding after_in trace_in
  calm_turns [] keys c o calm y r = record { reached = r; leads = λ g. refl; key_is = refl; tags = λ g some tag. tag }
  calm_turns (t ∷ ts) keys c o calm y r =
      let parts = calm_parts (reshapes t.1 (outcome_in c t)) (number_of is_reshape (trace_in (next_in c t) ts)) calm in
      let one = calm_turn c t (keys 0 t (omega arith)) o parts.0 y r in
      let rest = calm_turns ts (λ i d below. keys (suc i) d (omega (arith, below))) (next_in c t)
      (ordered_next L enough c t (keys 0 t (omega arith)) o) parts.1 y one.reached in
      record {
        reached = rest.reached;
        leads = λ g. rest.leads g ∙ one.leads g;
        key_is = rest.key_is
            ∙ one.key_is;
        tags = λ g some tag. rest.tags g (λ none'. some (sym (one.leads g) ∙ none'))
            (one.tags g some tag);
      }

  look_edge : (s : State) (u x : ℕ) (d : Side) (e : Edge) → reply_of s u (Look x (EdgeOn d)) ≡ EdgeIs e
      → edge s.memory x d ≡ e
  unfolding reply
  look_edge s u x d e is = cc

  -- what a look of a worker told, by the part of these turns
  module _ (w : ℕ) (ts : List (ℕ × Event)) (keys : All (λ t. HasKey t.1) ts) (c : Configuration) (o : IsOrdered L c)
      (calm : number_of is_reshape (trace_in c ts) ≡ 0) (xs : List Entry) (x : ℕ) where
    -- of a node that stays until the turn of the look
    still : (e : Entry) (ys : List Entry) → Reached c.state.memory x → (a : SplitTurn w c ts xs e ys)
        → StaysThere c (after_in c a.before) x
    still e ys r a = calm_turns a.before keys' c o calm' x r
      where
        keys' : All (λ t. HasKey t.1) a.before
        keys' = first_keys a.before (a.turn ∷ a.since)
            (subst (λ (l : List (ℕ × Event)). All (λ t. HasKey t.1) l) a.is_run keys)

        calm' : number_of is_reshape (trace_in c a.before) ≡ 0
        calm' = let all = ap (λ (l : List (ℕ × Event)). number_of is_reshape (trace_in c l)) a.is_run in
            let parts = number_split is_reshape c a.before a.turn a.since in omega (arith, calm, all, parts)

    told_at : (e : Entry) (ys : List Entry) (a : SplitTurn w c ts xs e ys)
        → reply_of (after_in c a.before).state a.turn.0 e.0 ≡ e.1
    told_at e ys a = ap (reply_of (after_in c a.before).state a.turn.0) (sym (ap (λ (k : Entry). k.0) a.is_entry))
        ∙ ap (λ (k : Entry). k.1) a.is_entry

    pub look_there : (d : Side) (e : Edge) (ys : List Entry)
        → part_of w (trace_in c ts) ≡ xs ++ (Look x (EdgeOn d), EdgeIs e) ∷ ys → Reached c.state.memory x
        → e.slot ≡ child c.state.memory x d
    look_there d e ys is r = by (split_turn w ts c xs (Look x (EdgeOn d), EdgeIs e) ys is)
      where
        by : SplitTurn w c ts xs (Look x (EdgeOn d), EdgeIs e) ys → e.slot ≡ child c.state.memory x d
        by a = sym (ap (λ (e : Edge). e.slot) (look_edge (after_in c a.before).state a.turn.0 x d e
            (told_at _ ys a))) ∙ (still _ ys r a).leads d

    -- a tag that was read is there behind them
    pub tag_there : (d : Side) (e : Edge) (ys : List Entry)
        → part_of w (trace_in c ts) ≡ xs ++ (Look x (EdgeOn d), EdgeIs e) ∷ ys → Reached c.state.memory x → e.slot ≢ 0
        → e.tag ≡ true → (edge (after_in c ts).state.memory x d).tag ≡ true
    tag_there d e ys is r some tag = by (split_turn w ts c xs (Look x (EdgeOn d), EdgeIs e) ys is)
      where
        by : SplitTurn w c ts xs (Look x (EdgeOn d), EdgeIs e) ys → (edge (after_in c ts).state.memory x d).tag ≡ true
        by a = ap (λ (b : Configuration). (edge b.state.memory x d).tag)
            (ap (after_in c) a.is_run ∙ after_in-append c a.before (a.turn ∷ a.since))
            ∙ (calm_turns (a.turn ∷ a.since) (later_keys a.before (a.turn ∷ a.since) all) (after_in c a.before)
            (ordered_after w L enough a.before (first_keys a.before (a.turn ∷ a.since) all) c o) calm' x
            (still _ ys r a).reached).tags d
            (λ none'. some (sym (ap (λ (e : Edge). e.slot) told) ∙ none')) (ap (λ (e : Edge). e.tag) told ∙ tag)
          where
            all : All (λ t. HasKey t.1) (a.before ++ a.turn ∷ a.since)
            all = subst (λ (l : List (ℕ × Event)). All (λ t. HasKey t.1) l) a.is_run keys

            told : edge (after_in c a.before).state.memory x d ≡ e
            told = look_edge (after_in c a.before).state a.turn.0 x d e (told_at _ ys a)

            calm' : number_of is_reshape (trace_in (after_in c a.before) (a.turn ∷ a.since)) ≡ 0
            calm' = let run = ap (λ (l : List (ℕ × Event)). number_of is_reshape (trace_in c l)) a.is_run in
                let parts = ap (number_of is_reshape) (trace_in-append c a.before (a.turn ∷ a.since))
                ∙ number-append is_reshape (trace_in c a.before)
                (trace_in (after_in c a.before) (a.turn ∷ a.since)) in
                omega (arith, calm, run, parts)

    pub key_there : (k : ℕ) (ys : List Entry) → part_of w (trace_in c ts) ≡ xs ++ (Look x KeyOf, KeyIs k) ∷ ys
        → Reached c.state.memory x → k ≡ key c.state.memory x
    key_there k ys is r = by (split_turn w ts c xs (Look x KeyOf, KeyIs k) ys is)
      where
        by : SplitTurn w c ts xs (Look x KeyOf, KeyIs k) ys → k ≡ key c.state.memory x
        by a = key_told (after_in c a.before).state a.turn.0 x k (told_at _ ys a) ∙ (still _ ys r a).key_is

-- ---- others and all

none_reshapes : (e : Event) (x : Refused) → reshapes e (Err x) ≡ false
none_reshapes (Link a b f g) x = refl
none_reshapes (Splice a b f g h) x = refl
none_reshapes (Swap a b f g) x = refl
none_reshapes e x = refl

-- where a worker's own log links and cuts nothing, and no other does, nobody does
pub nobody : (w : ℕ) (turns : List Turn) → list_any (λ (e : Entry). reshapes e.0 (Ok e.1)) (log_of w turns) ≡ false
    → number_of is_reshape turns ≡ number_of (reshapes_of_others w) turns
nobody w [] none = refl
nobody w (t ∷ ts) none = go (t.worker == w) t.outcome none (nobody w ts)
  where
    go : (b : Bool) (o : Result Reply Refused) → list_any (λ (e : Entry). reshapes e.0 (Ok e.1))
        (cond b (logged_by (record { worker = t.worker; event = t.event; outcome = o })) [] ++ log_of w ts) ≡ false
        → (list_any (λ (e : Entry). reshapes e.0 (Ok e.1)) (log_of w ts) ≡ false
        → number_of is_reshape ts ≡ number_of (reshapes_of_others w) ts)
        → cond (reshapes t.event o) 1 0 + number_of is_reshape ts
        ≡ cond (not b && reshapes t.event o) 1 0 + number_of (reshapes_of_others w) ts
    go false (Ok r) none rest = let same = rest none in omega (arith, same)
    go false (Err x) none rest = let same = rest none in omega (arith, same)
    go true (Ok r) none rest =
        let parts = or_parts (reshapes t.event (Ok r))
        (list_any (λ (e : Entry). reshapes e.0 (Ok e.1)) (log_of w ts)) none in
        let same = rest parts.1 in
        let zero_is = ap one_if parts.0 in
        omega (arith, same, zero_is)
    go true (Err x) none rest = let same = rest none in let zero_is = ap one_if (none_reshapes t.event x) in
        omega (arith, same, zero_is)

-- ---- paths

abbrev slots_on : (ℕ → Side → ℕ) → ℕ → List Side → List ℕ
slots_on ch s [] = s ∷ []
slots_on ch s (d ∷ q) = s ∷ slots_on ch (ch s d) q

how_long : (ch : ℕ → Side → ℕ) (s : ℕ) (q : List Side) → length (slots_on ch s q) ≡ length q + 1
how_long ch s [] = refl
how_long ch s (d ∷ q) = let rest = how_long ch (ch s d) q in omega (arith, rest)

module _ (L : Layout) (enough : 5 ≤ L.nodes) (c : Configuration) (o : IsOrdered L c) where
  abbrev ch : ℕ → Side → ℕ
  ch = child c.state.memory

  abbrev end : List Side → ℕ
  end q = follow (child c.state.memory) 1 q

  null : (d : Side) → child c.state.memory 0 d ≡ 0
  null d = ap (λ (e : Edge). e.slot) ((law_of_state L enough c o).1.tree.nothing d)

  further : (p : List Side) (d : Side) → child c.state.memory (follow (child c.state.memory) 1 p) d
      ≡ follow (child c.state.memory) 1 (p ++ d ∷ [])
  further p d = sym (follow-append (child c.state.memory) 1 p (d ∷ []))

  some_before : (p q : List Side) → follow (child c.state.memory) 1 (p ++ q) ≢ 0 → follow (child c.state.memory) 1 p ≢ 0
  some_before p q some z = some (follow-append (child c.state.memory) 1 p q
      ∙ (ap (λ (x : ℕ). follow (child c.state.memory) x q) z ∙ follow_none (child c.state.memory) null q))

  differs : (p : List Side) (d : Side) (r : List Side) → follow (child c.state.memory) 1 p ≢ 0
      → eqb (follow (child c.state.memory) 1 p) (follow (child c.state.memory) 1 (p ++ d ∷ r)) ≡ false
  differs p d r some = ne_eqb _ _ (λ same. no_more
      (append_cancel p [] (d ∷ r) (append-nil p ∙ alone c.state.layout.nodes
      (picture c.state (law_of_state L enough c o).0) (law_of_state L enough c o).1.tree p (p ++ d ∷ r) some same)))
    where
      no_more : {e : Side} {xs : List Side} → ◌≡◌ {A = List Side} [] (e ∷ xs) → ⊥
      no_more e = cc

  apart_on : (p : List Side) (d : Side) (r q : List Side) → follow (child c.state.memory) 1 p ≢ 0
      → Apart (follow (child c.state.memory) 1 p) (slots_on (child c.state.memory)
      (follow (child c.state.memory) 1 (p ++ d ∷ r)) q)
  apart_on p d r [] some = (differs p d r some, tt)
  apart_on p d r (e ∷ q) some = (
    differs p d r some,
    subst
        (λ (x : ℕ). Apart (follow (child c.state.memory) 1 p) (slots_on (child c.state.memory) x q))
        (ap (follow (child c.state.memory) 1) (sym (append_assoc p (d ∷ r) (e ∷ []))) ∙ sym (further (p ++ d ∷ r) e))
        (apart_on p d (r ++ e ∷ []) q some),
  )

  all_on : (p q : List Side) → follow (child c.state.memory) 1 (p ++ q) ≢ 0
      → Distinct (slots_on (child c.state.memory) (follow (child c.state.memory) 1 p) q)
      × Within c.state.layout.nodes (slots_on (child c.state.memory) (follow (child c.state.memory) 1 p) q)
  all_on p [] some = ((tt, tt), (inside p (some_before p [] some), tt))
    where
      inside : (p : List Side) → follow (child c.state.memory) 1 p ≢ 0
          → (1 ≤ follow (child c.state.memory) 1 p) × (follow (child c.state.memory) 1 p ≤ c.state.layout.nodes)
      inside p some = (
        omega (arith, some),
        reached_within c.state.layout.nodes
            (picture c.state (law_of_state L enough c o).0) (law_of_state L enough c o).1.tree p,
      )
  all_on p (d ∷ q) some = by (all_on (p ++ d ∷ []) q
      (λ z. some (ap (follow (child c.state.memory) 1) (sym (append_assoc p (d ∷ []) q)) ∙ z)))
    where
      some_p : follow (child c.state.memory) 1 p ≢ 0
      some_p = some_before p (d ∷ q) some

      by : Distinct (slots_on (child c.state.memory) (follow (child c.state.memory) 1 (p ++ d ∷ [])) q)
          × Within c.state.layout.nodes (slots_on (child c.state.memory)
          (follow (child c.state.memory) 1 (p ++ d ∷ [])) q)
          → Distinct (slots_on (child c.state.memory) (follow (child c.state.memory) 1 p) (d ∷ q))
          × Within c.state.layout.nodes (slots_on (child c.state.memory) (follow (child c.state.memory) 1 p) (d ∷ q))
      by rest = (
        (
          subst (λ (x : ℕ). Apart (follow (child c.state.memory) 1 p) (slots_on (child c.state.memory) x q))
              (sym (further p d)) (apart_on p d [] q some_p),
          subst
              (λ (x : ℕ). Distinct (slots_on (child c.state.memory) x q)) (sym (further p d)) rest.0,
        ),
        (
          (
            omega (arith, some_p),
            reached_within c.state.layout.nodes (picture c.state (law_of_state L enough c o).0)
                (law_of_state L enough c o).1.tree p,
          ),
          subst
              (λ (x : ℕ). Within c.state.layout.nodes (slots_on (child c.state.memory) x q)) (sym (further p d)) rest.1,
        ),
      )

  -- the slots of a path are no more than there are
  pub long_path : (q : List Side) → follow (child c.state.memory) 1 q ≢ 0 → length q + 1 ≤ c.state.layout.nodes
  long_path q some = let parts = all_on [] q some in
      let all = few c.state.layout.nodes (slots_on (child c.state.memory) 1 q) parts.0 parts.1 in
      let size = how_long (child c.state.memory) 1 q in omega (arith, all, size)
