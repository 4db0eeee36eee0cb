-- Birth words only grow, and grow before a slot is put to use again.
use Rattle.std.proofs.Common.{◌≡◌, ℕ, ◌+◌, ◌==◌, ◌<◌, ◌≤◌, ◌⊎◌, inl, inr, eqb, Bool, true, false, cond, not, ◌||◌, ◌&&◌, List, [], ◌∷◌, length, get_or, refl, sym, ap, ◌∙◌, arith, true≢false, get_or-set_same, get_or-set_other, le_of_eq}
use Rattle.std.specs.Prelude.{Option, Some, None, is_some, is_none, unwrap_or, nat_lt}
use native.Mathlib.Decide.{ℕ_discrete}
use Rattle.std.proofs.lemmas.Bool.{cond_both, cond-true, cond-false, eqb-true, eq-eqb, ne_eqb, and_parts, or_parts, not-false, cases_lt}
use Rattle.std.proofs.lemmas.List.{set_past}
use Rattle.std.proofs.lemmas.Option.{none-some, same_Some}
use Rattle.nm_edge.specs.Edges.{Edge, to, is_to, tagged}
use Rattle.nm_edge.specs.declared.edge.Side.{Side}
use Rattle.nm_edge.specs.declared.edge.Side.TheVariants.{Left, Right}
use Rattle.nm_model.specs.declared.event.Field.{Field}
use Rattle.nm_model.specs.declared.event.Field.TheVariants.{Key, Edge as EdgeOn, Birth}
use Rattle.nm_model.specs.declared.event.Event.{Event}
use Rattle.nm_model.specs.declared.event.Event.TheVariants.{Sight, SightFor, Announce, Leave, LeaveWith, Scan, Advance, Claim, Give, Look, Fill, Link, Flag, Tag, Splice, Swap, Join}
use Rattle.nm_model.specs.declared.reply.Reply.{Reply}
use Rattle.nm_model.specs.declared.reply.Reply.TheVariants.{Announced, Departed, Moved, Behind, Claimed, Taken, Returned, Freed, Linked, Flagged, Was, Cut, Lost}
use Rattle.nm_model.specs.declared.reply.Refused.TheVariants.{NoSlot, NotPrivate, NotReady}
use Rattle.nm_model.specs.declared.memory.Node.{Node}
use Rattle.nm_model.specs.declared.knowledge.Draft.{Draft}
use Rattle.nm_model.specs.Maps.{get, put, without, is_number}
use Rattle.nm_model.specs.Memory.{Memory, blank, node, edge, in_pool, named, with_edge, put_node, put_edge}
use Rattle.nm_model.specs.Ledgers.{front_of}
use Rattle.nm_model.specs.Knowledge.{Knowledge, unfilled, is_private, draft_of, read, beside}
use Rattle.nm_model.specs.Learning.{learn, look_private, look_known, filled_in}
use Rattle.nm_model.specs.Step.{outside, is_edge, is_early, is_fork_over, is_linkable, is_leaf_draft, reply_look, node_of, node_linked, exchanged, filled, kept, refusal, reply, write}
use Rattle.nm_model.specs.Runs.{State, of, refusal_of, reply_of}
use Rattle.nm_laws.proofs.Steps.{Allowed, passed, third}
use Rattle.nm_model.proofs.Tables.{get-put, get-without, Ascends, ascends-without}
use Rattle.nm_laws.proofs.Learned.{learn_sight_for, learn_leave_with, learn_claimed, learn_taken, learn_returned, learn_freed, learn_look, learn_filled, learn_linked, learn_link_lost, learn_swapped, learn_swap_lost, scan_teaches, sight_teaches}
use Rattle.nm_laws.proofs.TreeSlots.{put_pool}
use Rattle.nm_laws.proofs.TreeSteps.{Lawful, high_from, slot_inside, fill_checked, link_checked, swap_checked}

abbrev pub word : Memory → ℕ → ℕ
word m x = (node m x).birth

-- a private slot whose birth was not stored yet
pub record Unborn (k : Knowledge) (x : ℕ) : Type 0 where
  pub draft : Draft
  pub is : get k.drafts x ≡ Some draft
  pub unborn : draft.birth ≡ None

-- a slot gets its key after its birth
abbrev pub BornFirst : Knowledge → Type 0
BornFirst k = (x : ℕ) (d : Draft) → get k.drafts x ≡ Some d → d.birth ≡ None → d.key ≡ None

-- what one event does to births, the pool and the private slots of its worker
pub record Aged (s : State) (w : ℕ) (m : Memory) (k : Knowledge) : Type 0 where
  pub words : (x : ℕ) → word s.memory x ≤ word m x
  pub pooled : (x : ℕ) → in_pool s.memory x ≡ true → (in_pool m x ≡ true) ⊎ Unborn k x
  pub unborn : (x : ℕ) → Unborn (of s w) x → Unborn k x ⊎ ((in_pool m x ≡ true) ⊎ (word s.memory x < word m x))
  pub drafts : BornFirst (of s w) → BornFirst k

same_aged : (s : State) (w : ℕ) (m : Memory) (k : Knowledge) → ((x : ℕ) → word m x ≡ word s.memory x)
    → ((x : ℕ) → in_pool m x ≡ in_pool s.memory x) → k.drafts ≡ (of s w).drafts → Aged s w m k
same_aged s w m k words pool drafts = record {
  words = λ x. le_of_eq (sym (words x));
  pooled = λ x h. inl (pool x ∙ h);
  unborn = λ x u. inl (record { draft = u.draft; is = ap (λ d. get d x) drafts ∙ u.is; unborn = u.unborn });
  drafts = λ b x d h. b x d (ap (λ e. get e x) (sym drafts) ∙ h);
}

-- ---- the private slots of one worker, where an event leaves them alone

module _ (w : ℕ) (k : Knowledge) where
  drafts_sight : (r : Reply) → (learn w k Sight r).drafts ≡ k.drafts
  unfolding learn
  drafts_sight r = ap (λ (l : Knowledge). l.drafts) (sight_teaches k r)

  drafts_announce : (r : Reply) → (learn w k Announce r).drafts ≡ k.drafts
  unfolding learn
  drafts_announce (Announced e) = refl
  drafts_announce _ = refl

  drafts_leave : (r : Reply) → (learn w k Leave r).drafts ≡ k.drafts
  unfolding learn
  drafts_leave Departed = refl
  drafts_leave _ = refl

  drafts_scan : (u : ℕ) (r : Reply) → (learn w k (Scan u) r).drafts ≡ k.drafts
  unfolding learn
  drafts_scan u r = ap (λ (l : Knowledge). l.drafts) (scan_teaches k u r)

  drafts_advance : (r : Reply) → (learn w k Advance r).drafts ≡ k.drafts
  unfolding learn
  drafts_advance (Moved e) = refl
  drafts_advance (Behind e) = refl
  drafts_advance _ = refl

  drafts_flag : (p : ℕ) (d : Side) (leaf : ℕ) (r : Reply) → (learn w k (Flag p d leaf) r).drafts ≡ k.drafts
  unfolding learn
  drafts_flag p d leaf (Flagged n) = refl
  drafts_flag p d leaf (Lost e) = refl
  drafts_flag p d leaf _ = refl

  drafts_tag : (p : ℕ) (d : Side) (r : Reply) → (learn w k (Tag p d) r).drafts ≡ k.drafts
  unfolding learn
  drafts_tag p d (Was e) = refl
  drafts_tag p d _ = refl

  drafts_splice : (a : ℕ) (d : Side) (x p : ℕ) (keep : Side) (r : Reply)
      → (learn w k (Splice a d x p keep) r).drafts ≡ k.drafts
  unfolding learn
  drafts_splice a d x p keep (Cut ns) = refl
  drafts_splice a d x p keep (Lost e) = refl
  drafts_splice a d x p keep _ = refl

-- ---- births of nodes whose edges are written

edge_birth : (n : Node) (d : Side) (e : Edge) → (with_edge n d e).birth ≡ n.birth
edge_birth n Left e = refl
edge_birth n Right e = refl

node_word : (m : Memory) (x : ℕ) (n : Node) → n.birth ≡ word m x → (y : ℕ) → word (put_node m x n) y ≡ word m y
node_word m x n same y = elim (ℕ_discrete y x) [
  | yes e ↦ rw e (elim (cases_lt x (length m.nodes)) [
    | inl inside ↦ ap (λ (z : Node). z.birth) (get_or-set_same m.nodes x n blank inside) ∙ same
    | inr past ↦ ap (λ ns. (get_or ns x blank).birth) (set_past m.nodes x n past)
  ])
  | no ne ↦ ap (λ (z : Node). z.birth) (get_or-set_other m.nodes x y n blank ne)
]

edge_word : (m : Memory) (p : ℕ) (d : Side) (e : Edge) (y : ℕ) → word (put_edge m p d e) y ≡ word m y
edge_word m p d e = node_word m p (with_edge (node m p) d e) (edge_birth (node m p) d e)

exchange_word : (m : Memory) (p : ℕ) (d : Side) (leaf : ℕ) (e : Edge) (y : ℕ)
    → word (exchanged m p d leaf e) y ≡ word m y
exchange_word m p d leaf e y = cond_both (is_to (edge m p d) leaf) (put_edge m p d e) m (λ n. word n y ≡ word m y)
    (λ _. edge_word m p d e y) (λ _. refl)

exchange_pool : (m : Memory) (p : ℕ) (d : Side) (leaf : ℕ) (e : Edge) (y : ℕ)
    → in_pool (exchanged m p d leaf e) y ≡ in_pool m y
exchange_pool m p d leaf e y = cond_both (is_to (edge m p d) leaf) (put_edge m p d e) m
    (λ n. in_pool n y ≡ in_pool m y) (λ _. refl) (λ _. refl)

-- ---- one draft is put, or taken away

-- what a map has after a put: the new thing, or what it had
put_or : {X : Type 0} (m : List (ℕ × X)) (s : ℕ) (x : X) (q : ℕ) (y : X) → get (put m s x) q ≡ Some y
    → ((q ≡ s) × (x ≡ y)) ⊎ (get m q ≡ Some y)
put_or m s x q y h = go (eqb q s) refl (sym (get-put m s x q) ∙ h)
  where
    go : (b : Bool) → eqb q s ≡ b → cond b (Some x) (get m q) ≡ Some y → ((q ≡ s) × (x ≡ y)) ⊎ (get m q ≡ Some y)
    go true e h = inl (eqb-true q s e, same_Some x y h)
    go false e h = inr h

without_had : {X : Type 0} (m : List (ℕ × X)) (s q : ℕ) (y : X) → Ascends m → get (without m s) q ≡ Some y
    → get m q ≡ Some y
without_had m s q y a h = go (eqb q s) (sym (get-without m s q a) ∙ h)
  where
    go : (b : Bool) → cond b None (get m q) ≡ Some y → get m q ≡ Some y
    go true h = absurd (none-some y h)
    go false h = h

without_other : {X : Type 0} (m : List (ℕ × X)) (s q : ℕ) → Ascends m → (q ≡ s → ⊥) → get (without m s) q ≡ get m q
without_other m s q a ne = get-without m s q a ∙ cond-false (eqb q s) None (get m q) (ne_eqb q s ne)

module _ (s : State) (h : ℕ → ℕ) (law : Lawful s h) (w : ℕ) (born : BornFirst (of s w)) where
  -- a draft is replaced by one that is unborn where it was; with no key there, as before
  redraft : (x : ℕ) (d : Draft) → (m : Memory) → ((y : ℕ) → word m y ≡ word s.memory y)
      → ((y : ℕ) → in_pool m y ≡ in_pool s.memory y) → is_private (of s w) x ≡ true
      → d.birth ≡ (draft_of (of s w) x).birth → (d.birth ≡ None → d.key ≡ (draft_of (of s w) x).key)
      → Aged s w m (record (of s w) { drafts = put (of s w).drafts x d })
  redraft x d m words pool own birth key = record {
    words = λ y. le_of_eq (sym (words y));
    pooled = λ y i. inl (pool y ∙ i);
    unborn = λ y u. inl (still y u);
    drafts = λ b y e i none. by y e none (put_or (of s w).drafts x d y e i);
  }
    where
      was : (e : Draft) → get (of s w).drafts x ≡ Some e → draft_of (of s w) x ≡ e
      was e i = ap (λ o. unwrap_or o unfilled) i

      there : (e : Draft) × (get (of s w).drafts x ≡ Some e)
      there = go (get (of s w).drafts x) refl own
        where
          go : (o : Option Draft) → get (of s w).drafts x ≡ o → is_some o ≡ true
              → (e : Draft) × (get (of s w).drafts x ≡ Some e)
          go None i j = absurd (true≢false (sym j))
          go (Some e) i j = (e, i)

      still : (y : ℕ) → Unborn (of s w) y → Unborn (record (of s w) { drafts = put (of s w).drafts x d }) y
      still y u = elim (ℕ_discrete y x) [
        | yes e ↦ record {
          draft = d;
          is = get-put (of s w).drafts x d y
              ∙ cond-true (eqb y x) (Some d) (get (of s w).drafts y) (eq-eqb y x e);
          unborn = birth
              ∙ (ap (λ (z : Draft). z.birth) (was u.draft (ap (λ (z : ℕ). get (of s w).drafts z) (sym e) ∙ u.is))
              ∙ u.unborn);
        }
        | no ne ↦ record {
          draft = u.draft;
          is = get-put (of s w).drafts x d y
              ∙ (cond-false (eqb y x) (Some d) (get (of s w).drafts y) (ne_eqb y x ne) ∙ u.is);
          unborn = u.unborn;
        }
      ]

      by : (y : ℕ) (e : Draft) → e.birth ≡ None → ((y ≡ x) × (d ≡ e)) ⊎ (get (of s w).drafts y ≡ Some e) → e.key ≡ None
      by y e none (inl new) =
          let unborn' : d.birth ≡ None = ap (λ (z : Draft). z.birth) new.1 ∙ none in
          let old : (draft_of (of s w) x).birth ≡ None = sym birth ∙ unborn' in
          ap (λ (z : Draft). z.key) (sym new.1) ∙ (key unborn'
          ∙ (ap (λ (z : Draft). z.key) (was there.0 there.1)
          ∙ born x there.0 there.1 (ap (λ (z : Draft). z.birth) (sym (was there.0 there.1)) ∙ old)))
      by y e none (inr before) = born y e before none

  claim_aged : (x : ℕ) → x < length s.memory.pool → Aged s w (put_pool s.memory x false)
      (learn w (of s w) (Claim x) (cond (in_pool s.memory x) (Claimed x) Taken))
  claim_aged x inside = go (in_pool s.memory x) refl
    where
      go : (b : Bool) → in_pool s.memory x ≡ b → Aged s w (put_pool s.memory x false)
          (learn w (of s w) (Claim x) (cond b (Claimed x) Taken))
      go false taken = rw (learn_taken w (of s w) x)
          (same_aged s w (put_pool s.memory x false) (of s w) (λ y. refl) (λ y. elim (ℕ_discrete y x) [
            | yes e ↦ rw e (get_or-set_same s.memory.pool x false false inside ∙ sym taken)
            | no ne ↦ get_or-set_other s.memory.pool x y false false ne
          ]) refl)
      go true free = rw (learn_claimed w (of s w) x x) (record {
        words = λ y. le_of_eq refl;
        pooled = λ y i. elim (ℕ_discrete y x) [
          | yes e ↦ inr (record {
            draft = unfilled;
            is = get-put (of s w).drafts x unfilled y
                ∙ cond-true (eqb y x) (Some unfilled) (get (of s w).drafts y) (eq-eqb y x e);
            unborn = refl;
          })
          | no ne ↦ inl (get_or-set_other s.memory.pool x y false false ne ∙ i)
        ];
        unborn = λ y u. inl (elim (ℕ_discrete y x) [
          | yes e ↦ record {
            draft = unfilled;
            is = get-put (of s w).drafts x unfilled y
                ∙ cond-true (eqb y x) (Some unfilled) (get (of s w).drafts y) (eq-eqb y x e);
            unborn = refl;
          }
          | no ne ↦ record {
            draft = u.draft;
            is = get-put (of s w).drafts x unfilled y
                ∙ (cond-false (eqb y x) (Some unfilled) (get (of s w).drafts y) (ne_eqb y x ne) ∙ u.is);
            unborn = u.unborn;
          }
        ]);
        drafts = λ b y e i none. by y e none (put_or (of s w).drafts x unfilled y e i);
      })
        where
          by : (y : ℕ) (e : Draft) → e.birth ≡ None → ((y ≡ x) × (unfilled ≡ e)) ⊎ (get (of s w).drafts y ≡ Some e)
              → e.key ≡ None
          by y e none (inl new) = ap (λ (z : Draft). z.key) (sym new.1)
          by y e none (inr before) = born y e before none

  in_pool_now : (x y : ℕ) → x < length s.memory.pool → (y ≡ x) ⊎ (in_pool s.memory y ≡ true)
      → in_pool (put_pool s.memory x true) y ≡ true
  in_pool_now x y inside h = elim (ℕ_discrete y x) [
    | yes e ↦ rw e (get_or-set_same s.memory.pool x true false inside)
    | no ne ↦ get_or-set_other s.memory.pool x y true false ne ∙ was ne h
  ]
    where
      was : (y ≡ x → ⊥) → (y ≡ x) ⊎ (in_pool s.memory y ≡ true) → in_pool s.memory y ≡ true
      was ne (inl e) = absurd (ne e)
      was ne (inr i) = i

  give_aged : (x : ℕ) → x < length s.memory.pool → Aged s w (put_pool s.memory x true)
      (learn w (of s w) (Give x) (cond (is_private (of s w) x) (Returned x)
      (Freed (node_of (front_of (of s w).ledgers x)))))
  give_aged x inside = cond_both (is_private (of s w) x) (Returned x) (Freed (node_of (front_of (of s w).ledgers x)))
      (λ r. Aged s w (put_pool s.memory x true) (learn w (of s w) (Give x) r))
      (λ own. rw (learn_returned w (of s w) x x) (record {
        words = λ y. le_of_eq refl;
        pooled = λ y i. inl (in_pool_now x y inside (inr i));
        unborn = λ y u. elim (ℕ_discrete y x) [
          | yes e ↦ inr (inl (in_pool_now x y inside (inl e)))
          | no ne ↦ inl (record {
            draft = u.draft;
            is = without_other (of s w).drafts x y (law.drafts w) ne
                ∙ u.is;
            unborn = u.unborn;
          })
        ];
        drafts = λ b y e i none. b y e (without_had (of s w).drafts x y e (law.drafts w) i) none;
      }))
      (λ _. rw (learn_freed w (of s w) x (node_of (front_of (of s w).ledgers x))) (record {
        words = λ y. le_of_eq refl;
        pooled = λ y i. inl (in_pool_now x y inside (inr i));
        unborn = λ y u. inl (record { draft = u.draft; is = u.is; unborn = u.unborn });
        drafts = λ b. b;
      }))

  look_aged : (x : ℕ) (f : Field) → Aged s w s.memory (learn w (of s w) (Look x f) (reply_look (node s.memory x) f))
  look_aged x f = rw (learn_look w (of s w) x f (reply_look (node s.memory x) f))
      (cond_both (is_private (of s w) x) (look_private (of s w) x f (reply_look (node s.memory x) f))
      (look_known (of s w) x f (reply_look (node s.memory x) f)) (λ k. Aged s w s.memory k)
      (λ own. mine own f) (λ _. others f))
    where
      mine : is_private (of s w) x ≡ true → (f : Field)
          → Aged s w s.memory (look_private (of s w) x f (reply_look (node s.memory x) f))
      mine own Key = same_aged s w s.memory _ (λ y. refl) (λ y. refl) refl
      mine own (EdgeOn d) = same_aged s w s.memory _ (λ y. refl) (λ y. refl) refl
      mine own Birth = redraft x _ s.memory (λ y. refl) (λ y. refl) own refl (λ _. refl)

      others : (f : Field) → Aged s w s.memory (look_known (of s w) x f (reply_look (node s.memory x) f))
      others Key = same_aged s w s.memory _ (λ y. refl) (λ y. refl) refl
      others (EdgeOn d) = same_aged s w s.memory _ (λ y. refl) (λ y. refl) refl
      others Birth = same_aged s w s.memory _ (λ y. refl) (λ y. refl) refl

  fill_aged : (x : ℕ) (f : Field) (v : ℕ) → x < length s.memory.nodes → is_private (of s w) x ≡ true
      → is_early (draft_of (of s w) x) f v (word s.memory x) ≡ false
      → Aged s w (put_node s.memory x (filled (node s.memory x) f v))
      (record (of s w) { drafts = put (of s w).drafts x (filled_in (draft_of (of s w) x) f v) })
  fill_aged x Key v inside own late = redraft x _ (put_node s.memory x (filled (node s.memory x) Key v))
      (node_word s.memory x _ refl) (λ y. refl) own refl (λ none. absurd (true≢false (sym (ap is_none none) ∙ late)))
  fill_aged x (EdgeOn Left) v inside own late = redraft x _
      (put_node s.memory x (filled (node s.memory x) (EdgeOn Left) v)) (node_word s.memory x _ refl) (λ y. refl) own
      refl (λ _. refl)
  fill_aged x (EdgeOn Right) v inside own late = redraft x _
      (put_node s.memory x (filled (node s.memory x) (EdgeOn Right) v)) (node_word s.memory x _ refl) (λ y. refl) own
      refl (λ _. refl)
  fill_aged x Birth v inside own late = record {
    words = λ y. elim (ℕ_discrete y x) [
      | yes e ↦ rw e (let n = here in let m = more in omega arith)
      | no ne ↦
          le_of_eq (sym (there y ne))
    ];
    pooled = λ y i. inl i;
    unborn = λ y u. elim (ℕ_discrete y x) [
      | yes e ↦ inr (inr (rw e (let n = here in let m = more in omega arith)))
      | no ne ↦ inl (record {
        draft = u.draft;
        is = get-put (of s w).drafts x
            (filled_in (draft_of (of s w) x) Birth v) y ∙ (cond-false (eqb y x)
            (Some (filled_in (draft_of (of s w) x) Birth v)) (get (of s w).drafts y) (ne_eqb y x ne) ∙ u.is);
        unborn =
            u.unborn;
      })
    ];
    drafts = λ b y e i none. by y e none (put_or (of s w).drafts x (filled_in (draft_of (of s w) x) Birth v) y e i);
  }
    where
      more : v ≡ word s.memory x + 1
      more = let parts = or_parts (is_some (draft_of (of s w) x).birth) (not (v == word s.memory x + 1)) late in
          eqb-true v (word s.memory x + 1) (not-false _ parts.1)

      here : word (put_node s.memory x (filled (node s.memory x) Birth v)) x ≡ v
      here = ap (λ (z : Node). z.birth) (get_or-set_same s.memory.nodes x (filled (node s.memory x) Birth v) blank
          inside)

      there : (y : ℕ) → (y ≡ x → ⊥) → word (put_node s.memory x (filled (node s.memory x) Birth v)) y ≡ word s.memory y
      there y ne = ap (λ (z : Node). z.birth) (get_or-set_other s.memory.nodes x y (filled (node s.memory x) Birth v)
          blank ne)

      by : (y : ℕ) (e : Draft) → e.birth ≡ None → ((y ≡ x) × (filled_in (draft_of (of s w) x) Birth v ≡ e))
          ⊎ (get (of s w).drafts y ≡ Some e) → e.key ≡ None
      by y e none (inl new) = absurd (none-some v (sym none ∙ ap (λ (z : Draft). z.birth) (sym new.1)))
      by y e none (inr before) = born y e before none

  -- a slot with a key is born
  keyed : (x y : ℕ) → is_some (draft_of (of s w) x).key ≡ true → Unborn (of s w) y → y ≡ x → ⊥
  keyed x y key u e =
      let none : (draft_of (of s w) x).key ≡ None = ap (λ (z : ℕ). (draft_of (of s w) z).key) (sym e)
      ∙ (ap (λ o. (unwrap_or o unfilled).key) u.is ∙ born y u.draft u.is u.unborn) in
      true≢false (sym key ∙ ap is_some none)

  swap_aged : (p : ℕ) (d : Side) (leaf new : ℕ) → is_leaf_draft (of s w) new ≡ true
      → Aged s w (exchanged s.memory p d leaf (to new))
      (learn w (of s w) (Swap p d leaf new)
      (cond (is_to (edge s.memory p d) leaf) (Cut (named s.memory leaf ∷ [])) (Lost (edge s.memory p d))))
  swap_aged p d leaf new ready = cond_both (is_to (edge s.memory p d) leaf) (Cut (named s.memory leaf ∷ []))
      (Lost (edge s.memory p d))
      (λ r. Aged s w (exchanged s.memory p d leaf (to new)) (learn w (of s w) (Swap p d leaf new) r))
      (λ _. rw (learn_swapped w (of s w) p d leaf new (named s.memory leaf ∷ [])) (record {
        words = λ y. le_of_eq (sym (exchange_word s.memory p d leaf (to new) y));
        pooled = λ y i. inl (exchange_pool s.memory p d leaf (to new) y ∙ i);
        unborn = λ y u. inl (record {
          draft = u.draft;
          is = without_other (of s w).drafts new y (law.drafts w)
              (keyed new y has_key u) ∙ u.is;
          unborn = u.unborn;
        });
        drafts = λ b y e i none. b y e (without_had (of s w).drafts new y e (law.drafts w) i) none;
      }))
      (λ _. rw (learn_swap_lost w (of s w) p d leaf new (edge s.memory p d))
      (same_aged s w (exchanged s.memory p d leaf (to new)) _ (exchange_word s.memory p d leaf (to new))
      (exchange_pool s.memory p d leaf (to new)) refl))
    where
      has_key : is_some (draft_of (of s w) new).key ≡ true
      has_key = (and_parts (is_some (draft_of (of s w) new).key) _ (and_parts (is_private (of s w) new) _ ready).1).0

  link_aged : (p : ℕ) (d : Side) (leaf new : ℕ) → is_linkable (of s w) new leaf ≡ true
      → Aged s w (exchanged s.memory p d leaf (to new))
      (learn w (of s w) (Link p d leaf new) (cond (is_to (edge s.memory p d) leaf)
      (Linked (node_linked (of s w) new)) (Lost (edge s.memory p d))))
  link_aged p d leaf new ready = cond_both (is_to (edge s.memory p d) leaf) (Linked (node_linked (of s w) new))
      (Lost (edge s.memory p d)) (λ r. Aged s w (exchanged s.memory p d leaf (to new))
      (learn w (of s w) (Link p d leaf new) r))
      (λ _. rw (learn_linked w (of s w) p d leaf new (node_linked (of s w) new)) (record {
        words = λ y. le_of_eq (sym (exchange_word s.memory p d leaf (to new) y));
        pooled = λ y i. inl (exchange_pool s.memory p d leaf (to new) y ∙ i);
        unborn = λ y u. inl (record {
          draft = u.draft;
          is = without_other (without (of s w).drafts new) far y (ascends-without (of s w).drafts new (law.drafts w))
              (keyed far y far_key u) ∙ (without_other (of s w).drafts new y (law.drafts w) (keyed new y has_key u)
              ∙ u.is);
          unborn = u.unborn;
        });
        drafts = λ b y e i none. b y e (without_had (of s w).drafts new y e (law.drafts w)
            (without_had (without (of s w).drafts new) far y e (ascends-without (of s w).drafts new (law.drafts w)) i))
            none;
      }))
      (λ _. rw (learn_link_lost w (of s w) p d leaf new (edge s.memory p d))
      (same_aged s w (exchanged s.memory p d leaf (to new)) _ (exchange_word s.memory p d leaf (to new))
      (exchange_pool s.memory p d leaf (to new)) refl))
    where
      far : ℕ
      far = unwrap_or (beside (draft_of (of s w) new) leaf) 0

      both : (is_fork_over (draft_of (of s w) new) leaf ≡ true)
          × (is_leaf_draft (of s w) (unwrap_or (beside (draft_of (of s w) new) leaf) 0) ≡ true)
      both = and_parts (is_fork_over (draft_of (of s w) new) leaf) _ ready

      has_key : is_some (draft_of (of s w) new).key ≡ true
      has_key = (and_parts (is_some (draft_of (of s w) new).key) _ both.0).0

      far_key : is_some (draft_of (of s w) (unwrap_or (beside (draft_of (of s w) new) leaf) 0)).key ≡ true
      far_key = (and_parts (is_some (draft_of (of s w) (unwrap_or (beside (draft_of (of s w) new) leaf) 0)).key) _
          (and_parts (is_private (of s w) (unwrap_or (beside (draft_of (of s w) new) leaf) 0)) _ both.1).1).0

  pub aged : (e : Event) → Allowed s w e → ((v : ℕ) → e ≡ Join v → ⊥)
      → Aged s w (write s.memory (of s w) w e) (learn w (of s w) e (reply_of s w e))
  unfolding refusal reply write
  aged e ok alone = go e ok.event alone
    where
      in_list : (x : ℕ) → outside 6 s.layout.nodes x ≡ false → x < length s.memory.pool
      in_list x i = let range = high_from 6 s.layout.nodes x i in let size = law.roomy.pool in omega arith

      go : (e : Event) → refusal_of s w e ≡ None → ((v : ℕ) → e ≡ Join v → ⊥)
          → Aged s w (write s.memory (of s w) w e) (learn w (of s w) e (reply_of s w e))
      go Sight ok alone = same_aged s w _ _ (λ y. refl) (λ y. refl) (drafts_sight w (of s w) _)
      go (SightFor op key) ok alone = same_aged s w _ _ (λ y. refl) (λ y. refl)
          (ap (λ (l : Knowledge). l.drafts) (learn_sight_for w (of s w) op key _) ∙ drafts_sight w (of s w) _)
      go Announce ok alone = same_aged s w _ _ (λ y. refl) (λ y. refl) (drafts_announce w (of s w) _)
      go Leave ok alone = same_aged s w _ _ (λ y. refl) (λ y. refl) (drafts_leave w (of s w) _)
      go (LeaveWith answer) ok alone = same_aged s w _ _ (λ y. refl) (λ y. refl)
          (ap (λ (l : Knowledge). l.drafts) (learn_leave_with w (of s w) answer) ∙ drafts_leave w (of s w) _)
      go (Scan u) ok alone = same_aged s w _ _ (λ y. refl) (λ y. refl) (drafts_scan w (of s w) u _)
      go Advance ok alone = cond_both (is_number (of s w).brief.seen s.memory.epoch)
          (record s.memory { epoch = s.memory.epoch + 1 }) s.memory
          (λ m. Aged s w m (learn w (of s w) Advance (reply_of s w Advance)))
          (λ _. same_aged s w _ _ (λ y. refl) (λ y. refl) (drafts_advance w (of s w) _))
          (λ _. same_aged s w _ _ (λ y. refl) (λ y. refl) (drafts_advance w (of s w) _))
      go (Claim x) ok alone = claim_aged x (in_list x (passed _ _ _ ok).0)
      go (Give x) ok alone = give_aged x (in_list x (passed _ _ _ ok).0)
      go (Look x f) ok alone = look_aged x f
      go (Fill x f v) ok alone = rw (learn_filled w (of s w) x f v)
          (fill_aged x f v (slot_inside s h law x 6 (or_parts (outside 6 s.layout.nodes x)
          (is_edge f && nat_lt s.layout.nodes v) (passed _ _ _ ok).0).0) (fill_checked s w (Fill x f v) ok x f v refl)
          (third (outside 6 s.layout.nodes x || (is_edge f && nat_lt s.layout.nodes v)) (not (is_private (of s w) x))
          (is_early (draft_of (of s w) x) f v (node s.memory x).birth) NoSlot NotPrivate NotReady _ ok))
      go (Link p d leaf new) ok alone = link_aged p d leaf new (link_checked s w p d leaf new ok).ready
      go (Flag p d leaf) ok alone = same_aged s w _ _ (exchange_word s.memory p d leaf _)
          (exchange_pool s.memory p d leaf _) (drafts_flag w (of s w) p d leaf _)
      go (Tag p d) ok alone = same_aged s w _ _ (edge_word s.memory p d (tagged (edge s.memory p d))) (λ y. refl)
          (drafts_tag w (of s w) p d _)
      go (Splice a d x p keep) ok alone = same_aged s w _ _
          (exchange_word s.memory a d x (kept (read (of s w) p keep)))
          (exchange_pool s.memory a d x (kept (read (of s w) p keep))) (drafts_splice w (of s w) a d x p keep _)
      go (Swap p d leaf new) ok alone = swap_aged p d leaf new (swap_checked s w p d leaf new ok).ready
      go (Join v) ok alone = absurd (alone v refl)
