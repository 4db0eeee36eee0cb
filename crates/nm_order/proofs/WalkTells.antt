-- A walk that has ended tells whether its key was in the set at a moment since the pin, in either
-- shape of the tree.
use Rattle.std.proofs.Common.{◌≡◌, ℕ, ◌<◌, ◌≤◌, ◌==◌, inl, inr, Bool, true, false, List, [], ◌∷◌, ◌++◌, append_assoc, refl, sym, ap, subst, ◌∙◌}
use Rattle.std.specs.Prelude.{All}
use Rattle.std.proofs.lemmas.Bool.{eqb-true, eqb-false, and_parts}
use Rattle.nm_edge.specs.Layouts.{Layout}
use Rattle.nm_edge.specs.declared.edge.Side.{Side}
use Rattle.nm_edge.specs.declared.edge.Side.TheVariants.{Left, Right}
use Rattle.nm_model.specs.declared.event.Event.{Event}
use Rattle.nm_model.specs.declared.event.Event.TheVariants.{Look}
use Rattle.nm_model.specs.declared.event.Field.TheVariants.{Key, Edge as EdgeOn}
use Rattle.nm_model.specs.declared.event.Op.TheVariants.{Has}
use Rattle.nm_model.specs.declared.reply.Reply.TheVariants.{KeyIs, EdgeIs}
use Rattle.nm_model.specs.Memory.{node, child, is_leaf, infinity_1}
use Rattle.nm_model.specs.Searches.{side_of}
use Rattle.nm_model.specs.Walks.{Entry, IsPart, WalkComes, WalkReads, WalkEnds}
use Rattle.nm_model.specs.Ordered.{ordered, after_in}
use Rattle.nm_model.specs.Acts.{InSet, Gives}
use Rattle.nm_order.specs.Intervals.{HasKey, InInterval, key}
use Rattle.nm_order.specs.Moments.{OfEachOrderedRun}
use Rattle.nm_order.specs.Ranges.{StandsFor}
use Rattle.nm_order.specs.StalePaths.{log_since, log_under_pin, WasReachedLater, WasReachedSince}
use Rattle.nm_order.specs.RadixPaths.{AnyWalkOutOfRangeEndsElsewhere}
use Rattle.nm_order.specs.WalkAnswers.{WasSoLater, WasSoUnderPin, AnyWalkTells}
use Rattle.nm_order.proofs.FactLaws.{leaf_is}
use Rattle.nm_order.proofs.LogParts.{part_grows, part_itself, part_within}
use Rattle.nm_order.proofs.OrderedLaws.{IsOrdered, each_ordered, keys_lie, one_leaf_for}
use Rattle.nm_order.proofs.RunExchanges.{first_keys}
use Rattle.nm_order.proofs.StaleRuns.{walk_was_reached, walk_reads, walk_knows_leaf, radix_walk, any_walk_apart}

-- a walk that has ended came to its leaf
came : (k : ℕ) (log : List Entry) (slot parent : ℕ) (side : Side) (v : ℕ) → WalkEnds k log slot parent side v
    → WalkComes k log slot parent side
came k log slot parent side v walk = record {
  looks = walk.looks;
  leads = walk.leads;
  is_part = part_within walk.is_part walk.looks (part_grows
      ((Look slot Key, KeyIs v) ∷ (Look slot (EdgeOn (side_of k v)), EdgeIs walk.null) ∷ []) (part_itself walk.looks));
}

-- and read its key
read : (k : ℕ) (log : List Entry) (slot parent : ℕ) (side : Side) (v : ℕ) → WalkEnds k log slot parent side v
    → WalkReads k log slot parent side v
read k log slot parent side v walk = record {
  looks = walk.looks;
  leads = walk.leads;
  is_part = part_within walk.is_part (walk.looks ++ (Look slot Key, KeyIs v) ∷ [])
      (subst (λ (l : List Entry). IsPart (walk.looks ++ (Look slot Key, KeyIs v) ∷ []) l)
      (append_assoc walk.looks ((Look slot Key, KeyIs v) ∷ [])
      ((Look slot (EdgeOn (side_of k v)), EdgeIs walk.null) ∷ []))
      (part_grows ((Look slot (EdgeOn (side_of k v)), EdgeIs walk.null) ∷ [])
      (part_itself (walk.looks ++ (Look slot Key, KeyIs v) ∷ []))));
}

-- ---- the answer of a walk, whose looks came after the first turns of a run

module _ (L : Layout) (enough : 5 ≤ L.nodes) (past more : List (ℕ × Event))
    (keys : All (λ t. HasKey t.1) (past ++ more)) (u k slot parent : ℕ) (side : Side) (v : ℕ)
    (walk : WalkEnds k (log_since L past (past ++ more) u) slot parent side v) where
  abbrev turns : List (ℕ × Event)
  turns = past ++ more

  abbrev here : List Entry
  here = log_since L past (past ++ more) u

  -- it has ended at a leaf
  pub ends_at_leaf : is_leaf (node (after_in (ordered L) turns).state.memory slot) ≡ true
  ends_at_leaf = leaf_is L enough (after_in (ordered L) turns) (each_ordered L enough turns keys) u slot
      (walk_knows_leaf L enough past more keys u k slot parent side v walk)

  -- whose key it has read
  pub read_key : key (after_in (ordered L) turns).state.memory slot ≡ v
  read_key = walk_reads L enough past more keys u k slot parent side v (read k here slot parent side v walk)

  -- and which has no edge
  null : (f : Side) → child (after_in (ordered L) turns).state.memory slot f ≡ 0
  null f = go f (and_parts ((node (after_in (ordered L) turns).state.memory slot).left.slot ==
      0) ((node (after_in (ordered L) turns).state.memory slot).right.slot == 0) ends_at_leaf)
    where
      go : (f : Side) → (((node (after_in (ordered L) turns).state.memory slot).left.slot == 0) ≡ true)
          × (((node (after_in (ordered L) turns).state.memory slot).right.slot == 0) ≡ true)
          → child (after_in (ordered L) turns).state.memory slot f ≡ 0
      go Left both = eqb-true (node (after_in (ordered L) turns).state.memory slot).left.slot 0 both.0
      go Right both = eqb-true (node (after_in (ordered L) turns).state.memory slot).right.slot 0 both.1

  -- so it stands for its own key
  pub stands : v ≡ k → StandsFor (child (after_in (ordered L) turns).state.memory)
      (key (after_in (ordered L) turns).state.memory) slot k
  stands same = inl (null, read_key ∙ same)

  module _ (small : k < infinity_1) (was : WasReachedLater L past turns u k slot) where
    ordered_then : IsOrdered L (after_in (ordered L) was.0.before)
    ordered_then = each_ordered L enough was.0.before
        (first_keys was.0.before was.0.since
        (subst (λ (ts : List (ℕ × Event)). All (λ t. HasKey t.1) ts) was.0.is_run keys))

    has_key : key (after_in (ordered L) was.0.before).state.memory slot ≡ v
    has_key = was.0.same_key ∙ read_key

    leaf : is_leaf (node (after_in (ordered L) was.0.before).state.memory slot) ≡ true
    leaf = was.0.same_kind ∙ ends_at_leaf

    -- the one leaf in whose interval the key lay is this one
    one_leaf : (s : InSet (after_in (ordered L) was.0.before).state.memory k) → slot ≡ s.slot
    one_leaf s = one_leaf_for L enough (after_in (ordered L) was.0.before) ordered_then k slot s.slot was.0.lies
        (subst (λ (j : ℕ). InInterval (after_in (ordered L) was.0.before).state.memory j s.slot) s.has_key
        (keys_lie L enough (after_in (ordered L) was.0.before) ordered_then s.slot s.reached))
        was.0.reached.is_slot s.reached.is_slot leaf s.leaf

    gives : (b : Bool) → (v == k) ≡ b → Gives (InSet (after_in (ordered L) was.0.before).state.memory) Has k b
    gives true is = record { slot = slot; reached = was.0.reached; leaf = leaf; has_key = has_key ∙ eqb-true v k is }
    gives false other = λ s. eqb-false v k other (sym has_key
        ∙ (ap (key (after_in (ordered L) was.0.before).state.memory) (one_leaf s) ∙ s.has_key))

    tells : WasSoLater L past turns u k (v == k)
    tells = (
      record {
        before = was.0.before;
        since = was.0.since;
        is_run = was.0.is_run;
        pinned =
            was.0.pinned;
        stands = was.0.stands;
        gives = gives (v == k) refl;
      },
      was.1,
    )

  pub walk_tells : k < infinity_1 → WasSoLater L past turns u k (v == k)
  walk_tells small = by L.radix refl
    where
      comes : WalkComes k (log_since L past (past ++ more) u) slot parent side
      comes = came k here slot parent side v walk

      -- behind a node without k in its range the leaf has another key
      other : (StandsFor (child (after_in (ordered L) turns).state.memory)
          (key (after_in (ordered L) turns).state.memory) slot k → ⊥) → WasSoLater L past turns u k false → (b : Bool)
          → (v == k) ≡ b → WasSoLater L past turns u k b
      other none n false is = n
      other none n true is = absurd (none (stands (eqb-true v k is)))

      by : (shape : Bool) → L.radix ≡ shape → WasSoLater L past turns u k (v == k)
      by false search = tells small (walk_was_reached L enough past more keys search u k slot parent side small comes)
      by true radix = elim (radix_walk L enough past more keys radix u k slot parent side small comes) [
        | inl was ↦ tells small was
        | inr out ↦ other out.1 out.0 (v == k) refl
      ]

pub any_walk_tells : OfEachOrderedRun AnyWalkTells
any_walk_tells L enough turns keys u k slot parent side v small walk =
    (walk_tells L enough [] turns keys u k slot parent side v walk small).0

-- in a radix tree, behind a node without the key in its range the leaf has another key
pub any_walk_ends_elsewhere : OfEachOrderedRun AnyWalkOutOfRangeEndsElsewhere
unfolding came
any_walk_ends_elsewhere L enough turns keys radix u k slot parent side v small walk x n there out same =
    apart (stands L enough [] turns keys u k slot parent side v walk same)
  where
    apart : StandsFor (child (after_in (ordered L) turns).state.memory)
        (key (after_in (ordered L) turns).state.memory) slot k → ⊥
    apart = any_walk_apart L enough turns keys radix u k slot parent side small
        (came k (log_under_pin L turns u) slot parent side v walk) x n there out
