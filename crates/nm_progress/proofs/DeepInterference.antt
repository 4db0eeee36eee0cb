-- A walk that comes by 64 tagged edges, one behind the other, met interference: in a tree that stays
-- so many deletes of other workers would be pending.
use Rattle.std.proofs.Common.{◌≡◌, ◌≢◌, ℕ, zero, suc, ◌<◌, ◌≤◌, Bool, true, false, cond, List, length, [], ◌∷◌, ◌++◌, append_assoc, refl, sym, ap, subst, ◌∙◌, arith}
use Rattle.std.specs.Prelude.{Option, Some, All, unwrap_or}
use Rattle.std.proofs.lemmas.Bool.{ne_eqb}
use Rattle.std.proofs.lemmas.List.{append-nil, append_cancel_left, length-append}
use Rattle.std.proofs.lemmas.List.Elements.{All-append}
use Rattle.std.proofs.lemmas.Option.{same_Some}
use Rattle.nm_edge.specs.Edges.{Edge, other}
use Rattle.nm_edge.specs.Layouts.{Layout}
use Rattle.nm_edge.specs.declared.edge.Side.{Side}
use Rattle.nm_edge.specs.declared.edge.Side.TheVariants.{Left, Right}
use Rattle.nm_edge.specs.declared.node.NodeId.{NodeId}
use Rattle.nm_model.specs.declared.arrivals.Call.{Call}
use Rattle.nm_model.specs.declared.event.Event.{Event}
use Rattle.nm_model.specs.declared.event.Event.TheVariants.{Look}
use Rattle.nm_model.specs.declared.event.Field.TheVariants.{Key as KeyOf, Edge as EdgeOn}
use Rattle.nm_model.specs.declared.reply.Reply.TheVariants.{KeyIs, EdgeIs}
use Rattle.nm_model.specs.Memory.{edge, child, named, infinity_1, infinity_2}
use Rattle.nm_model.specs.Ordered.{Configuration, ordered, search_of, after_in, trace_in}
use Rattle.nm_model.specs.Paths.{follow, Reached}
use Rattle.nm_model.specs.Knowledge.{knows}
use Rattle.nm_model.specs.Runs.{of}
use Rattle.nm_model.specs.Searches.{Search, idle, side_of}
use Rattle.nm_model.specs.Walks.{Entry, search_after}
use Rattle.nm_laws.proofs.Configurations.{after_in-append}
use Rattle.nm_laws.proofs.Pictures.{IsLive, alone, reached_live}
use Rattle.nm_laws.proofs.Trees.{follow-append, follow_none, append_cancel}
use Rattle.nm_laws.proofs.TreeSteps.{Lawful}
use Rattle.nm_laws.proofs.Views.{picture}
use Rattle.nm_order.specs.Intervals.{HasKey, GoesBy, key}
use Rattle.nm_order.specs.Logs.{part_of}
use Rattle.nm_order.specs.Pending.{IsOfOneDelete}
use Rattle.nm_order.proofs.FlagFates.{own_flagged}
use Rattle.nm_order.proofs.FlaggedNodes.{FlaggedLeaf}
use Rattle.nm_order.proofs.OrderedLaws.{IsOrdered, each_ordered, law_of_state}
use Rattle.nm_order.proofs.LastEntries.{ToldBy, told_by_part}
use Rattle.nm_order.proofs.OrderedMoments.{Lasting, call_walks}
use Rattle.nm_order.proofs.OwnTurns.{own_search}
use Rattle.nm_order.proofs.PendingLeaves.{each_flagged_leaf_is_pending, flag_noted}
use Rattle.nm_order.proofs.RadixTrees.{left_if}
use Rattle.nm_order.proofs.Searching.{goes-append, goes_first, goes_on}
use Rattle.nm_order.proofs.WalksOfRuns.{trace_in-append}
use Rattle.nm_order.proofs.FrozenChains.{Within, Apart, Distinct, few}
use Rattle.nm_order.proofs.NothingPends.{flagger}
use Rattle.nm_walks.specs.declared.looking.Onward.{Onward}
use Rattle.nm_walks.specs.declared.seek_record.ChainEdge.{ChainEdge}
use Rattle.nm_walks.specs.declared.seek_record.SeekRecord.{SeekRecord}
use Rattle.nm_walks.specs.Bounds.{chain_bound}
use Rattle.nm_walks.specs.Walks.{onto, chained, Walks, IsTooDeep}
use Rattle.nm_progress.specs.Moves.{number_of}
use Rattle.nm_progress.proofs.MoreTries.{Plain, plain_then}
use Rattle.nm_progress.proofs.Reshapes.{is_reshape, StaysThere, calm_turns, look_there, tag_there}
use Rattle.nm_progress.proofs.SplitTurns.{ordered_after}
use Rattle.nm_progress.proofs.WalkInterference.{OnPath, IsRead, walk_path, walk_plain, behind_read, read_there}
use Rattle.nm_progress.proofs.LostPins.{part-append}
use Rattle.nm_progress.proofs.Parts.{walk_longer, reads_plain}
use Rattle.nm_progress.proofs.Steady.{IsFor, for_on, plain_steady}
use Rattle.nm_progress.proofs.WalkReads.{onto_edge}

-- ---- a path by tagged edges

abbrev pub AllTagged : Configuration → ℕ → List Side → Type 0
AllTagged d x [] = Unit {0}
AllTagged d x (e ∷ p) = ((edge d.state.memory x e).tag ≡ true) × AllTagged d (child d.state.memory x e) p

tagged_then : (d : Configuration) (x : ℕ) (p : List Side) (e : Side) → AllTagged d x p
    → (edge d.state.memory (follow (child d.state.memory) x p) e).tag ≡ true → AllTagged d x (p ++ e ∷ [])
tagged_then d x [] e all tag = (tag, tt)
tagged_then d x (f ∷ p) e all tag = (all.0, tagged_then d (child d.state.memory x f) p e all.1 tag)

-- where a walk stands in a tree: behind tagged edges, as many as its chain has, and one more edge
pub record OnChain (d : Configuration) (k : ℕ) (s : SeekRecord) (chain : List ChainEdge) : Type 0 where
  pub base : List Side
  pub links : List Side
  pub last : Side
  pub size : length links ≡ length chain
  pub tagged : AllTagged d (follow (child d.state.memory) 1 base) links
  pub ends : follow (child d.state.memory) 1 ((base ++ links) ++ last ∷ []) ≡ s.edge.slot
  pub is_slot : s.edge.slot ≢ 0
  pub mark : s.edge.tag ≡ true → (edge d.state.memory (follow (child d.state.memory) 1 (base ++ links)) last).tag ≡ true
  pub goes : k < infinity_1 → GoesBy (child d.state.memory) (key d.state.memory) k 1 ((base ++ links) ++ last ∷ [])

module _ (L : Layout) (enough : 5 ≤ L.nodes) (w : ℕ) (c : Configuration) (o : IsOrdered L c) (ts : List (ℕ × Event))
    (keys : All (λ t. HasKey t.1) ts) (calm : number_of is_reshape (trace_in c ts) ≡ 0) where
  there : IsOrdered L (after_in c ts)
  there = ordered_after w L enough ts keys c o

  stays : (x : ℕ) → Reached c.state.memory x → StaysThere L enough c (after_in c ts) x
  stays x r = calm_turns L enough ts keys c o calm x r

  -- one node further
  further : (k : ℕ) (t s : SeekRecord) (chain more : List ChainEdge) (on : Onward) → s ≡ onto t on.side on.next
      → on.next.slot ≢ 0 → side_of k (key (after_in c ts).state.memory t.edge.slot) ≡ on.side
      → child (after_in c ts).state.memory t.edge.slot on.side ≡ on.next.slot
      → (on.next.tag ≡ true → (edge (after_in c ts).state.memory t.edge.slot on.side).tag ≡ true)
      → (base links : List Side) → length links ≡ length more
      → AllTagged (after_in c ts) (follow (child (after_in c ts).state.memory) 1 base) links
      → follow (child (after_in c ts).state.memory) 1 (base ++ links) ≡ t.edge.slot
      → (k < infinity_1 → GoesBy (child (after_in c ts).state.memory) (key (after_in c ts).state.memory) k 1
      (base ++ links)) → OnChain (after_in c ts) k s more
  further k t s chain more on is some turns leads mark base links size tagged ends goes = record {
    base = base;
    links = links;
    last = on.side;
    size = size;
    tagged = tagged;
    ends = follow-append (child (after_in c ts).state.memory) 1 (base ++ links) (on.side ∷ [])
        ∙ (ap (λ (x : ℕ). child (after_in c ts).state.memory x on.side) ends
        ∙ (leads ∙ ap (λ (e : Edge). e.slot) (sym edge_is)));
    is_slot = λ z. some (ap (λ (e : Edge). e.slot) (sym edge_is) ∙ z);
    mark = λ tag. ap (λ (x : ℕ). (edge (after_in c ts).state.memory x on.side).tag) ends
        ∙ mark (ap (λ (e : Edge). e.tag) (sym edge_is) ∙ tag);
    goes = λ low. goes-append (child (after_in c ts).state.memory) (key (after_in c ts).state.memory) k 1
        (base ++ links) (on.side ∷ []) (goes low) (
          ap (λ (x : ℕ). side_of k (key (after_in c ts).state.memory x)) ends
              ∙ turns,
          tt,
        );
  }
    where
      edge_is : s.edge ≡ on.next
      edge_is = ap (λ (s : SeekRecord). s.edge) is ∙ onto_edge t on.side on.next

  pub walk_chain : (k n : ℕ) (old new : List Entry) (s : SeekRecord) (chain : List ChainEdge)
      → Walks k n old new s chain → (rest : List Entry) → old ++ part_of w (trace_in c ts) ≡ new ++ rest
      → OnChain (after_in c ts) k s chain
  walk_chain k zero old new s chain h rest whole = record {
    base = Left ∷ [];
    links = [];
    last = Left;
    size = ap (λ (l : List ChainEdge). length l) (sym h.1);
    tagged = tt;
    ends = ap (λ (x : ℕ). child (after_in c ts).state.memory x Left) second ∙ ((stays 2 reached).leads Left ∙ sym told);
    is_slot = h.2;
    mark = λ tag. ap (λ (x : ℕ). (edge (after_in c ts).state.memory x Left).tag) second
        ∙ tag_there L enough w ts keys c o calm [] 2 Left s.edge rest part reached h.2 tag;
    goes = λ low. (
      ap (side_of k) there.law.fixed.root ∙ left_if k infinity_2 (omega (arith, low)),
      (
        ap (λ (x : ℕ). side_of k (key (after_in c ts).state.memory x)) second
            ∙ (ap (side_of k) there.law.fixed.second ∙ left_if k infinity_1 low),
        tt,
      ),
    );
  }
    where
      second : child (after_in c ts).state.memory 1 Left ≡ 2
      second = (law_of_state L enough (after_in c ts) there).1.tree.root_left

      reached : Reached c.state.memory 2
      reached = record {
        path = Left ∷ [];
        ends = (law_of_state L enough c o).1.tree.root_left;
        is_slot = λ z. absurd
            (omega (arith, z));
      }

      part : part_of w (trace_in c ts) ≡ (Look 2 (EdgeOn Left), EdgeIs s.edge) ∷ rest
      part = append_cancel_left old _ _ (whole ∙ (ap (λ (l : List Entry). l ++ rest) h.3
          ∙ append_assoc old ((Look 2 (EdgeOn Left), EdgeIs s.edge) ∷ []) rest))

      told : s.edge.slot ≡ child c.state.memory 2 Left
      told = look_there L enough w ts keys c o calm [] 2 Left s.edge rest part reached
  walk_chain k (suc n) old new s chain (mid, t, before, on, walk, some, reads, is, more) rest whole =
      by t.edge.tag refl (walk_chain k n old mid t before walk _ behind)
    where
      behind : old ++ part_of w (trace_in c ts) ≡ mid
          ++ ((Look t.edge.slot KeyOf, KeyIs on.found) ∷ (Look t.edge.slot (EdgeOn Left), EdgeIs reads.0)
          ∷ (Look t.edge.slot (EdgeOn Right), EdgeIs reads.1) ∷ rest)
      behind = behind_read L enough w c o ts keys calm k t.edge.slot old mid new on reads rest whole

      path : OnPath L enough w c o ts keys calm k n t
      path = walk_path L enough w c o ts keys calm k n old mid t before walk _ behind

      reached : Reached c.state.memory t.edge.slot
      reached = record { path = path.sides; ends = path.ends; is_slot = path.is_slot }

      told : IsRead L enough w c o ts keys calm t.edge.slot on
      told = read_there L enough w c o ts keys calm k t.edge.slot old mid new on reads rest whole
          (walk_longer k n old mid t before walk) reached

      turns : side_of k (key (after_in c ts).state.memory t.edge.slot) ≡ on.side
      turns = ap (side_of k) ((stays t.edge.slot reached).key_is ∙ sym told.key_is) ∙ sym reads.3

      leads : child (after_in c ts).state.memory t.edge.slot on.side ≡ on.next.slot
      leads = (stays t.edge.slot reached).leads on.side ∙ sym told.leads

      by : (b : Bool) → t.edge.tag ≡ b → OnChain (after_in c ts) k t before → OnChain (after_in c ts) k s chain
      by true tag p = further k t s before chain on is some turns leads (told.tagged some) p.base
          (p.links ++ p.last ∷ [])
          (let size = p.size in let links = length-append p.links (p.last ∷ []) in
          let all = ap (λ (l : List ChainEdge). length l)
          (more ∙ ap (λ (b : Bool). cond b (before ++ chained t.parent t.side ∷ []) []) tag) in
          let chains = length-append before (chained t.parent t.side ∷ []) in omega (arith, size, links, all, chains))
          (tagged_then (after_in c ts) (follow (child (after_in c ts).state.memory) 1 p.base) p.links p.last p.tagged
          (ap (λ (x : ℕ). (edge (after_in c ts).state.memory x p.last).tag)
          (sym (follow-append (child (after_in c ts).state.memory) 1 p.base p.links)) ∙ p.mark tag))
          (ap (follow (child (after_in c ts).state.memory) 1) (sym (append_assoc p.base p.links (p.last ∷ [])))
          ∙ p.ends)
          (λ low. subst (GoesBy (child (after_in c ts).state.memory) (key (after_in c ts).state.memory) k 1)
          (append_assoc p.base p.links (p.last ∷ [])) (p.goes low))
      by false tag p = further k t s before chain on is some turns leads (told.tagged some)
          ((p.base ++ p.links) ++ p.last ∷ []) []
          (ap (λ (l : List ChainEdge). length l) (sym (more
          ∙ ap (λ (b : Bool). cond b (before ++ chained t.parent t.side ∷ []) []) tag))) tt
          (ap (follow (child (after_in c ts).state.memory) 1) (append-nil ((p.base ++ p.links) ++ p.last ∷ []))
          ∙ p.ends)
          (λ low. subst (GoesBy (child (after_in c ts).state.memory) (key (after_in c ts).state.memory) k 1)
          (sym (append-nil ((p.base ++ p.links) ++ p.last ∷ []))) (p.goes low))

-- ---- beside each tagged edge a delete is pending

other_is : (e : Side) → other e ≡ e → ⊥
other_is Left is = cc
other_is Right is = cc

module _ (L : Layout) (enough : 5 ≤ L.nodes) (past : List (ℕ × Event)) (keys : All (λ t. HasKey t.1) past) (w k : ℕ)
    (call : Call) (called : (own_search (after_in (ordered L) past) w).call ≡ Some call) (for : call.key ≡ k) where
  o : IsOrdered L (after_in (ordered L) past)
  o = each_ordered L enough past keys

  law : (h : ℕ → ℕ) × Lawful (after_in (ordered L) past).state h
  law = law_of_state L enough (after_in (ordered L) past) (each_ordered L enough past keys)

  null : (e : Side) → child (after_in (ordered L) past).state.memory 0 e ≡ 0
  null e = ap (λ (f : Edge). f.slot) (law.1.tree.nothing e)

  -- a worker's call has flagged the leaf at the end of a path
  record Owns (u : ℕ) (path : List Side) : Type 0 where
    node : NodeId
    flagged : (own_search (after_in (ordered L) past) u).flagged ≡ Some node
    ends : follow (child (after_in (ordered L) past).state.memory) 1 path ≡ node.slot
    some : follow (child (after_in (ordered L) past).state.memory) 1 path ≢ 0

  -- it flags one leaf, at the end of one path
  one_path : (u : ℕ) (p q : List Side) → Owns u p → Owns u q → p ≡ q
  one_path u p q a b = alone (after_in (ordered L) past).state.layout.nodes
      (picture (after_in (ordered L) past).state law.0) law.1.tree p q a.some
      (a.ends ∙ (ap (λ (n : NodeId). n.slot) (same_Some a.node b.node (sym a.flagged ∙ b.flagged)) ∙ sym b.ends))

  abbrev Below : List Side → List ℕ → Type 0
  Below q [] = Unit {0}
  Below q (y ∷ ys) = ((v : ℕ) × (r : List Side) × (y ≡ suc v) × Owns v (q ++ r)) × Below q ys

  higher : (q : List Side) (e : Side) (ys : List ℕ) → Below (q ++ e ∷ []) ys → Below q ys
  higher q e [] below = tt
  higher q e (y ∷ ys) below = (
    (
      below.0.0,
      e ∷ below.0.1,
      below.0.2,
      subst (Owns below.0.0)
          (append_assoc q (e ∷ []) below.0.1) below.0.3,
    ),
    higher q e ys below.1,
  )

  apart : (q : List Side) (e : Side) (u : ℕ) → Owns u (q ++ other e ∷ []) → (ys : List ℕ) → Below (q ++ e ∷ []) ys
      → Apart (suc u) ys
  apart q e u own [] below = tt
  apart q e u own (y ∷ ys) below = (
    ne_eqb (suc u) y
        (λ same. differ below.0.0 below.0.1 (let is = below.0.2 in omega (arith, same, is)) below.0.3),
    apart q e u own
        ys below.1,
  )
    where
      differ : (v : ℕ) (r : List Side) → u ≡ v → Owns v ((q ++ e ∷ []) ++ r) → ⊥
      differ v r same it = other_is e (head (append_cancel q (other e ∷ []) (e ∷ r)
          (one_path u (q ++ other e ∷ []) ((q ++ e ∷ []) ++ r) own
          (subst (λ (x : ℕ). Owns x ((q ++ e ∷ []) ++ r)) (sym same) it) ∙ append_assoc q (e ∷ []) r)))
        where
          head : other e ∷ [] ≡ e ∷ r → other e ≡ e
          head h = cc

  -- beside one tagged edge
  module _ (q : List Side) (e : Side) (some : follow (child (after_in (ordered L) past).state.memory) 1 q ≢ 0)
      (tag : (edge (after_in (ordered L) past).state.memory
      (follow (child (after_in (ordered L) past).state.memory) 1 q) e).tag ≡ true) where
    abbrev x : ℕ
    x = follow (child (after_in (ordered L) past).state.memory) 1 q

    live : IsLive (picture (after_in (ordered L) past).state law.0)
        (follow (child (after_in (ordered L) past).state.memory) 1 q)
    live = reached_live (after_in (ordered L) past).state.layout.nodes
        (picture (after_in (ordered L) past).state law.0) law.1.tree q some

    flag : (edge (after_in (ordered L) past).state.memory
        (follow (child (after_in (ordered L) past).state.memory) 1 q) (other e)).flag ≡ true
    flag = law.1.tree.frozen x e live tag

    high : 6 ≤ child (after_in (ordered L) past).state.memory
        (follow (child (after_in (ordered L) past).state.memory) 1 q) (other e)
    high = law.1.tree.flags x (other e) live flag

    end : follow (child (after_in (ordered L) past).state.memory) 1 (q ++ other e ∷ [])
        ≡ child (after_in (ordered L) past).state.memory (follow (child (after_in (ordered L) past).state.memory) 1 q)
        (other e)
    end = follow-append (child (after_in (ordered L) past).state.memory) 1 q (other e ∷ [])

    pending : IsOfOneDelete L past (named (after_in (ordered L) past).state.memory
        (child (after_in (ordered L) past).state.memory (follow (child (after_in (ordered L) past).state.memory) 1 q)
        (other e)))
    pending = each_flagged_leaf_is_pending L enough past keys x (other e)
        (record { path = q; ends = refl; is_slot = some }) flag

    owns : Owns pending.worker (q ++ other e ∷ [])
    owns = record {
      node = pending.flag.flagged;
      flagged = flag_noted L enough past keys pending.worker pending.key pending.flag;
      ends = end ∙ sym (ap (λ (n : NodeId). n.slot) pending.is_node);
      some = λ z. let up = high in absurd (omega (arith, up, z, end));
    }

    works : pending.worker < L.workers
    works = flagger L enough past keys pending.worker pending.key pending.flag

    -- it is no leaf of a worker whose walk goes the other way
    not_own : GoesBy (child (after_in (ordered L) past).state.memory) (key (after_in (ordered L) past).state.memory)
        k 1 (q ++ e ∷ []) → Owns w (q ++ other e ∷ []) → ⊥
    not_own goes own = other_is e (sym turns ∙ (goes_on (child (after_in (ordered L) past).state.memory)
        (key (after_in (ordered L) past).state.memory) k 1 q (e ∷ []) goes).0)
      where
        leaf : FlaggedLeaf (after_in (ordered L) past).state (own_search (after_in (ordered L) past) w) w own.node
        leaf = own_flagged L enough past keys w own.node own.flagged

        has_key : key (after_in (ordered L) past).state.memory
            (follow (child (after_in (ordered L) past).state.memory) 1 (q ++ other e ∷ [])) ≡ k
        has_key = ap (key (after_in (ordered L) past).state.memory) own.ends
            ∙ (ap (λ (l : Lasting). l.key) leaf.lasts ∙ (ap (λ (c : Call). c.key)
            (same_Some leaf.call call (sym leaf.is_call ∙ called)) ∙ for))

        turns : side_of k (key (after_in (ordered L) past).state.memory
            (follow (child (after_in (ordered L) past).state.memory) 1 q)) ≡ other e
        turns = (goes_on (child (after_in (ordered L) past).state.memory)
            (key (after_in (ordered L) past).state.memory) k 1 q (other e ∷ [])
            (subst (λ (j : ℕ). GoesBy (child (after_in (ordered L) past).state.memory)
            (key (after_in (ordered L) past).state.memory) j 1 (q ++ other e ∷ [])) has_key
            (o.law.order (q ++ other e ∷ []) own.some))).0

  -- so beside each of these
  record Owners (q : List Side) (n : ℕ) : Type 0 where
    us : List ℕ
    size : length us ≡ n
    below : Below q us
    distinct : Distinct us
    within : Within L.workers us
    others : Apart (suc w) us

  owners : (q p : List Side) → AllTagged (after_in (ordered L) past)
      (follow (child (after_in (ordered L) past).state.memory) 1 q) p
      → GoesBy (child (after_in (ordered L) past).state.memory) (key (after_in (ordered L) past).state.memory) k 1
      (q ++ p) → follow (child (after_in (ordered L) past).state.memory) 1 (q ++ p) ≢ 0 → Owners q (length p)
  owners q [] tagged goes some = record { us = []; size = refl; below = tt; distinct = tt; within = tt; others = tt }
  owners q (e ∷ p) tagged goes some = with_more (owners (q ++ e ∷ []) p
      (subst (λ (y : ℕ). AllTagged (after_in (ordered L) past) y p)
      (sym (follow-append (child (after_in (ordered L) past).state.memory) 1 q (e ∷ []))) tagged.1)
      (subst (GoesBy (child (after_in (ordered L) past).state.memory) (key (after_in (ordered L) past).state.memory) k
      1) (sym split) goes) (λ z. some (ap (follow (child (after_in (ordered L) past).state.memory) 1) (sym split) ∙ z)))
    where
      split : (q ++ e ∷ []) ++ p ≡ q ++ e ∷ p
      split = append_assoc q (e ∷ []) p

      some_q : follow (child (after_in (ordered L) past).state.memory) 1 q ≢ 0
      some_q z = some (follow-append (child (after_in (ordered L) past).state.memory) 1 q (e ∷ p)
          ∙ (ap (λ (y : ℕ). follow (child (after_in (ordered L) past).state.memory) y (e ∷ p)) z
          ∙ follow_none (child (after_in (ordered L) past).state.memory) null (e ∷ p)))

      u : ℕ
      u = (pending q e some_q tagged.0).worker

      own : Owns (pending q e some_q tagged.0).worker (q ++ other e ∷ [])
      own = owns q e some_q tagged.0

      goes_e : GoesBy (child (after_in (ordered L) past).state.memory) (key (after_in (ordered L) past).state.memory)
          k 1 (q ++ e ∷ [])
      goes_e = goes_first (child (after_in (ordered L) past).state.memory)
          (key (after_in (ordered L) past).state.memory) k 1 (q ++ e ∷ []) p
          (subst (GoesBy (child (after_in (ordered L) past).state.memory)
          (key (after_in (ordered L) past).state.memory) k 1) (sym split) goes)

      with_more : Owners (q ++ e ∷ []) (length p) → Owners q (suc (length p))
      with_more r = record {
        us = suc u ∷ r.us;
        size = let size = r.size in omega (arith, size);
        below = ((u, other e ∷ [], refl, own), higher q e r.us r.below);
        distinct = (apart q e u own r.us r.below, r.distinct);
        within = ((omega arith, (let less = works q e some_q tagged.0 in omega (arith, less))), r.within);
        others = (
          ne_eqb (suc w) (suc u) (λ same. not_own q e some_q tagged.0 goes_e
              (subst (λ (v : ℕ). Owns v (q ++ other e ∷ [])) (let is : u ≡ w = omega (arith, same) in is) own)),
          r.others,
        );
      }

  -- they are fewer than the workers
  pub tagged_few : w < L.workers → (q p : List Side)
      → AllTagged (after_in (ordered L) past) (follow (child (after_in (ordered L) past).state.memory) 1 q) p
      → GoesBy (child (after_in (ordered L) past).state.memory) (key (after_in (ordered L) past).state.memory) k 1
      (q ++ p) → follow (child (after_in (ordered L) past).state.memory) 1 (q ++ p) ≢ 0 → length p < L.workers
  tagged_few here q p tagged goes some = by (owners q p tagged goes some)
    where
      by : Owners q (length p) → length p < L.workers
      by r =
          let all = few L.workers (suc w ∷ r.us) (r.others, r.distinct)
          ((omega arith, omega (arith, here)), r.within) in
          let size = r.size in
          omega (arith, all, size)

-- ---- so no walk is broken off there, while the tree stays

pub deep_plain : (L : Layout) (k : ℕ) (old new : List Entry) → IsTooDeep L k old new → Plain old new
deep_plain L k old new e = plain_then old e.2 new (walk_plain k e.1 old e.2 e.3 e.4 e.7)
    (reads_plain k e.3.edge.slot e.2 new e.5 e.8)

pub not_too_deep : (L : Layout) (enough : 5 ≤ L.nodes) (w k : ℕ) → w < L.workers → L.workers ≤ chain_bound
    → (past : List (ℕ × Event)) → All (λ t. HasKey t.1) past → (ts : List (ℕ × Event)) → All (λ t. HasKey t.1) ts
    → number_of is_reshape (trace_in (after_in (ordered L) past) ts) ≡ 0
    → (old new : List Entry) → part_of w (trace_in (ordered L) past) ≡ old
    → old ++ part_of w (trace_in (after_in (ordered L) past) ts) ≡ new → IsFor k old → IsTooDeep L k old new → ⊥
not_too_deep L enough w k here crew past has ts keys calm old new is_part whole for deep = by
    (subst (λ (d : Configuration). OnChain d k deep.3 deep.4) (sym (after_in-append (ordered L) past ts)) chain)
  where
    chain : OnChain (after_in (after_in (ordered L) past) ts) k deep.3 deep.4
    chain = walk_chain L enough w (after_in (ordered L) past) (each_ordered L enough past has) ts keys calm k deep.1
        old deep.2 deep.3 deep.4 deep.7 _
        (behind_read L enough w (after_in (ordered L) past) (each_ordered L enough past has) ts keys calm k
        deep.3.edge.slot old deep.2 new deep.5 deep.8 [] (whole ∙ sym (append-nil new)))

    all : All (λ t. HasKey t.1) (past ++ ts)
    all = All-append (λ (t : ℕ × Event). HasKey t.1) past ts has keys

    told : ToldBy L w (part_of w (trace_in (ordered L) (past ++ ts))) (after_in (ordered L) (past ++ ts))
    told = told_by_part L enough w here (past ++ ts) all

    part_new : part_of w (trace_in (ordered L) (past ++ ts)) ≡ new
    part_new = ap (part_of w) (trace_in-append (ordered L) past ts)
        ∙ (part-append w (trace_in (ordered L) past) (trace_in (after_in (ordered L) past) ts)
        ∙ (ap (λ (l : List Entry). l ++ part_of w (trace_in (after_in (ordered L) past) ts)) is_part ∙ whole))

    for_new : IsFor k new
    for_new = for_on k old new (plain_steady old new (deep_plain L k old new deep)) for

    mine : search_of told.is_ordered.searches w ≡ search_after idle new
    mine = told.search ∙ ap (search_after idle) part_new

    called : (own_search (after_in (ordered L) (past ++ ts)) w).call ≡ Some for_new.call
    called = ap (λ (o : Option (List Search)). (search_of (unwrap_or o []) w).call) told.is_ordered.are
        ∙ (ap (λ (s : Search). s.call) mine ∙ for_new.is)

    small : k < infinity_1
    small =
        let key = (call_walks (after_in (ordered L) (past ++ ts)).state.layout.radix
        (after_in (ordered L) (past ++ ts)).state.memory
        (knows (of (after_in (ordered L) (past ++ ts)).state w)) (search_of told.is_ordered.searches w).call
        (search_of told.is_ordered.searches w).walks for_new.call
        (ap (λ (s : Search). s.call) mine ∙ for_new.is) (told.is_ordered.law.walks w)).0 in
        let same = for_new.has_key in
        omega (arith, key, same)

    by : OnChain (after_in (ordered L) (past ++ ts)) k deep.3 deep.4 → ⊥
    by p =
        let less = tagged_few L enough (past ++ ts) all w k for_new.call called for_new.has_key here p.base
        (p.links ++ p.last ∷ [])
        (tagged_then (after_in (ordered L) (past ++ ts))
        (follow (child (after_in (ordered L) (past ++ ts)).state.memory) 1 p.base) p.links p.last p.tagged
        (ap (λ (x : ℕ). (edge (after_in (ordered L) (past ++ ts)).state.memory x p.last).tag)
        (sym (follow-append (child (after_in (ordered L) (past ++ ts)).state.memory) 1 p.base p.links))
        ∙ p.mark deep.10))
        (subst (GoesBy (child (after_in (ordered L) (past ++ ts)).state.memory)
        (key (after_in (ordered L) (past ++ ts)).state.memory) k 1) (append_assoc p.base p.links (p.last ∷ []))
        (p.goes small))
        (λ z. p.is_slot (sym p.ends ∙ (ap (follow (child (after_in (ordered L) (past ++ ts)).state.memory) 1)
        (append_assoc p.base p.links (p.last ∷ [])) ∙ z))) in
        let size = p.size in
        let links = length-append p.links (p.last ∷ []) in
        let long = deep.11 in
        omega (arith, less, crew, size, links, long)
