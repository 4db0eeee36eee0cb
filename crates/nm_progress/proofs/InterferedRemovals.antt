-- Tries to cut a flagged leaf off: in each that is lost another worker changed an edge.
use Rattle.std.proofs.Common.{◌≡◌, ◌≢◌, arith, ℕ, zero, suc, ◌+◌, ◌<◌, ◌≤◌, inl, inr, ◌⊎◌, List, [], ◌∷◌, ◌++◌, refl, sym, ap, subst, ◌∙◌}
use Rattle.std.specs.Prelude.{Option, Some, None, IsSome}
use Rattle.std.proofs.lemmas.List.{append-nil}
use Rattle.nm_edge.specs.Edges.{Edge}
use Rattle.nm_edge.specs.Layouts.{Layout}
use Rattle.nm_edge.specs.declared.edge.Side.{Side}
use Rattle.nm_edge.specs.declared.edge.Side.TheVariants.{Left, Right}
use Rattle.nm_edge.specs.declared.node.NodeId.{NodeId}
use Rattle.nm_model.specs.declared.event.Event.TheVariants.{Look, Flag}
use Rattle.nm_model.specs.declared.event.Field.TheVariants.{Birth, Key as KeyOf, Edge as EdgeOn}
use Rattle.nm_model.specs.declared.event.Op.TheVariants.{Delete}
use Rattle.nm_model.specs.declared.reply.Reply.TheVariants.{BirthIs, Flagged, KeyIs, EdgeIs}
use Rattle.nm_model.specs.Searches.{idle, side_of}
use Rattle.nm_model.specs.Walks.{Entry, search_after}
use Rattle.nm_order.specs.Logs.{IsLogOf}
use Rattle.nm_order.specs.Facts.{Since, Holds}
use Rattle.nm_order.specs.Facts.Since.{TheFlag}
use Rattle.nm_order.specs.Facts.Fact.{IsTagged, IsFlagged, Came, ReadKey}
use Rattle.nm_order.specs.Taught.{WalksAreFor}
use Rattle.nm_order.proofs.FactStays.{facts_stay}
use Rattle.nm_order.proofs.LastEntries.{log_before}
use Rattle.nm_order.proofs.LaterFlagLaws.{later_walks_find}
use Rattle.nm_order.proofs.TaughtFacts.{flags_are_learned}
use Rattle.nm_order.proofs.TaughtWalks.{walks_begin, walks_go_on, walks_learn_keys}
use Rattle.nm_walks.specs.declared.looking.Onward.{Onward}
use Rattle.nm_walks.specs.declared.seek_record.ChainEdge.{ChainEdge}
use Rattle.nm_walks.specs.declared.seek_record.WalkEnd.{WalkEnd}
use Rattle.nm_walks.specs.declared.seek_record.SeekRecord.{SeekRecord}
use Rattle.nm_walks.specs.Walks.{begin, onto, after_looks, edge_on, Reads, Walks}
use Rattle.nm_walks.specs.Bounds.{chain_bound}
use Rattle.nm_walks.specs.Cleanups.{CleanupLost}
use Rattle.nm_calls.specs.Deletes.{LostRemovals, RemovesNothing, TriesFlag}
use Rattle.nm_progress.proofs.LostCleanups.{Changed, NeedsOthers, OnlyAt, changed_none, changed_once, changed_then, never_lost, never_plain, only_flag, only_plain, only_then}
use Rattle.nm_progress.proofs.MoreTries.{Plain, plain_these, plain_then, quiet_pins, log_prefix}
use Rattle.nm_progress.proofs.WalkInterference.{walk_plain}
use Rattle.nm_progress.proofs.InterferedTries.{cleanup_steady, broken_plain, broken_interferes}
use Rattle.nm_progress.proofs.MarkedReads.{IsMarked, marks_last}
use Rattle.nm_progress.proofs.Parts.{longer_none, reads_plain}
use Rattle.nm_progress.proofs.Steady.{Steady, steady_these, steady_then, plain_steady, steady_call}
use Rattle.nm_progress.proofs.WalkReads.{onto_parent, onto_side, onto_edge}

-- ---- a call that goes on

-- the call deletes k, and has flagged that leaf
pub record Flagging (k : ℕ) (n : NodeId) (log : List Entry) : Type 0 where
  pub call : (search_after idle log).call ≡ Some (record { op = Delete; key = k })
  pub flagged : (search_after idle log).flagged ≡ Some n

pub flagging_on : (k : ℕ) (n : NodeId) (old new : List Entry) → Steady old new → Flagging k n old → Flagging k n new
flagging_on k n old new s f = let same = steady_call old new s in
    record { call = same.0 ∙ f.call; flagged = same.1 ∙ f.flagged }

module _ (L : Layout) (enough : 5 ≤ L.nodes) (w k : ℕ) where
  -- ---- a walk comes to where it stands

  walk_came : (since : Since) (old new : List Entry) (s : SeekRecord) → WalksAreFor L w old since k
      → s ≡ begin s.edge → s.edge.slot ≢ 0 → new ≡ old ++ (Look 2 (EdgeOn Left), EdgeIs s.edge) ∷ [] → IsLogOf L w new
      → Holds L w new (Came since k s.edge.slot s.parent s.side)
  walk_came since old new s walks is some are l =
      subst (λ (l : List Entry). Holds L w l (Came since k s.edge.slot s.parent s.side)) (sym are)
      (subst (λ (t : SeekRecord). Holds L w (old ++ (Look 2 (EdgeOn Left), EdgeIs s.edge) ∷ [])
      (Came since k s.edge.slot t.parent t.side)) (sym is)
      (walks_begin L enough w old (Look 2 (EdgeOn Left), EdgeIs s.edge) (subst (IsLogOf L w) are l) since k s.edge
      walks refl some))

  walk_onward : (since : Since) (mid new : List Entry) (t s : SeekRecord) (on : Onward)
      → Holds L w mid (Came since k t.edge.slot t.parent t.side) → on.next.slot ≢ 0 → Reads k t.edge.slot mid new on
      → s ≡ onto t on.side on.next → IsLogOf L w new → Holds L w new (Came since k s.edge.slot s.parent s.side)
  walk_onward since mid new t s on came some (left, right, are, side, next) is l =
      subst (λ (e : Edge). Holds L w new (Came since k e.slot s.parent s.side))
      (sym (onto_edge t on.side on.next) ∙ sym (ap (λ (s : SeekRecord). s.edge) is))
      (subst (λ (d : Side). Holds L w new (Came since k on.next.slot s.parent d))
      (sym (onto_side t on.side on.next) ∙ sym (ap (λ (s : SeekRecord). s.side) is))
      (subst (λ (x : ℕ). Holds L w new (Came since k on.next.slot x on.side))
      (sym (onto_parent t on.side on.next) ∙ sym (ap (λ (s : SeekRecord). s.parent) is))
      (subst (λ (l : List Entry). Holds L w l (Came since k on.next.slot t.edge.slot on.side)) (sym are)
      (on_side on.side refl))))
    where
      log3 : IsLogOf L w (after_looks mid t.edge.slot on.found left right)
      log3 = subst (IsLogOf L w) are l

      log2 : IsLogOf L w ((mid ++ (Look t.edge.slot KeyOf, KeyIs on.found) ∷ [])
          ++ (Look t.edge.slot (EdgeOn Left), EdgeIs left) ∷ [])
      log2 = log_before L w _ (Look t.edge.slot (EdgeOn Right), EdgeIs right) log3

      log1 : IsLogOf L w (mid ++ (Look t.edge.slot KeyOf, KeyIs on.found) ∷ [])
      log1 = log_before L w _ (Look t.edge.slot (EdgeOn Left), EdgeIs left) log2

      read : Holds L w (mid ++ (Look t.edge.slot KeyOf, KeyIs on.found) ∷ [])
          (ReadKey since k t.edge.slot t.parent t.side on.found)
      read = walks_learn_keys L enough w mid (Look t.edge.slot KeyOf, KeyIs on.found) log1 since k t.edge.slot
          t.parent on.found t.side came refl

      read_on : Holds L w ((mid ++ (Look t.edge.slot KeyOf, KeyIs on.found) ∷ [])
          ++ (Look t.edge.slot (EdgeOn Left), EdgeIs left) ∷ []) (ReadKey since k t.edge.slot t.parent t.side on.found)
      read_on = facts_stay L enough w _ (Look t.edge.slot (EdgeOn Left), EdgeIs left) log2 refl
          (ReadKey since k t.edge.slot t.parent t.side on.found) read

      Here : Edge → Side → Type 0
      Here e d = Holds L w (after_looks mid t.edge.slot on.found left right) (Came since k e.slot t.edge.slot d)

      on_side : (d : Side) → on.side ≡ d → Here on.next on.side
      on_side Left at =
          subst (λ (e : Edge). Here e on.side) (sym (next ∙ ap (λ (d : Side). edge_on d left right) at))
          (subst (λ (d : Side). Here left d) (sym side)
          (facts_stay L enough w _ (Look t.edge.slot (EdgeOn Right), EdgeIs right) log3 refl
          (Came since k left.slot t.edge.slot (side_of k on.found))
          (walks_go_on L enough w _ (Look t.edge.slot (EdgeOn Left), EdgeIs left) log2 since k t.edge.slot t.parent
          on.found t.side left read (λ i. (Look t.edge.slot (EdgeOn ((sym at ∙ side) i)), EdgeIs left))
          (λ z. some (ap (λ (e : Edge). e.slot) (next ∙ ap (λ (d : Side). edge_on d left right) at) ∙ z)))))
      on_side Right at =
          subst (λ (e : Edge). Here e on.side) (sym (next ∙ ap (λ (d : Side). edge_on d left right) at))
          (subst (λ (d : Side). Here right d) (sym side)
          (walks_go_on L enough w _ (Look t.edge.slot (EdgeOn Right), EdgeIs right) log3 since k t.edge.slot t.parent
          on.found t.side right read_on (λ i. (Look t.edge.slot (EdgeOn ((sym at ∙ side) i)), EdgeIs right))
          (λ z. some (ap (λ (e : Edge). e.slot) (next ∙ ap (λ (d : Side). edge_on d left right) at) ∙ z))))

  walk_comes : (since : Since) (n : ℕ) (old new : List Entry) (s : SeekRecord) (c : List ChainEdge)
      → WalksAreFor L w old since k → Walks k n old new s c → IsLogOf L w new
      → Holds L w new (Came since k s.edge.slot s.parent s.side)
  walk_comes since zero old new s c walks h l = walk_came since old new s walks h.0 h.2 h.3 l
  walk_comes since (suc n) old new s c walks (mid, t, d, on, walk, some, reads, is, more) l =
      let p = reads_plain k t.edge.slot mid new on reads in
      walk_onward since mid new t s on (walk_comes since n old mid t d walks walk
      (log_prefix L w mid p.entries (subst (IsLogOf L w) p.are l))) some reads is l

  -- ---- a lost try

  pub removal_steady : (n : NodeId) (old new : List Entry) → RemovesNothing L k n old new → Steady old new
  removal_steady n old new (inl broken) = plain_steady old new (broken_plain L k old new broken)
  removal_steady n old new (inr (r, c, mid, seeks, same, lost)) =
      steady_then old mid new (plain_steady old mid (plain_then old seeks.0.1 mid
      (walk_plain k seeks.0.0 old seeks.0.1 r.seek_record c seeks.0.4)
      (reads_plain k r.seek_record.edge.slot seeks.0.1 mid seeks.0.2 seeks.0.6)))
      (cleanup_steady L enough w r.seek_record c mid new lost)

  -- the walk came to the flagged leaf by its flagged edge
  came_flagged : (n : NodeId) (r : WalkEnd) (c : List ChainEdge) (m : ℕ) (old walked : List Entry) → Flagging k n old
      → Walks k m old walked r.seek_record c → r.seek_record.edge.slot ≡ n.slot → IsLogOf L w walked
      → Holds L w walked (IsFlagged r.seek_record.parent r.seek_record.side r.seek_record.edge.slot)
  came_flagged n r c m old walked f walk same l =
      subst (λ (x : ℕ). Holds L w walked (IsFlagged r.seek_record.parent r.seek_record.side x)) (sym same)
      (later_walks_find L enough w walked l n k r.seek_record.parent r.seek_record.side
      (flagging_on k n old walked (plain_steady old walked (walk_plain k m old walked r.seek_record c walk))
      f).flagged
      (subst (λ (x : ℕ). Holds L w walked (Came TheFlag k x r.seek_record.parent r.seek_record.side)) same
      (walk_comes TheFlag m old walked r.seek_record c (Delete, f.call, some f.flagged) walk l)))
    where
      some : {o : Option NodeId} → o ≡ Some n → IsSome o
      some {o = Some m} is = refl
      some {o = None} is = absurd (let none : None ≡ Some n = is in cc)

  pub removal_needs : w < L.workers → L.workers ≤ chain_bound → (n : NodeId) (old new : List Entry)
      → Flagging k n old → RemovesNothing L k n old new → IsLogOf L w new → NeedsOthers L enough w old new
  removal_needs here crew n old new f (inl broken) l = never_plain L enough w old new
      (broken_plain L k old new broken) (broken_interferes L enough w k here crew old new
      (record { call = record { op = Delete; key = k }; is = f.call; has_key = refl }) broken)
  removal_needs here crew n old new f (inr (r, c, mid, seeks, same, lost)) l =
      never_lost L enough w k seeks.0.0 old seeks.0.1 mid new r.seek_record c seeks.0.4
      (only_plain r.seek_record.parent seeks.0.1 mid reads)
      (subst (λ (l : List Entry). Holds L w l (IsFlagged r.seek_record.parent r.seek_record.side
      r.seek_record.edge.slot) ⊎ Holds L w l (IsTagged r.seek_record.parent r.seek_record.side
      r.seek_record.edge.slot)) (sym reads.are)
      (marks_last L enough w seeks.0.1 reads.entries (subst (IsLogOf L w) reads.are mid_log)
      (quiet_pins reads.entries reads.quiet) r.seek_record.parent r.seek_record.side r.seek_record.edge.slot
      (inl (came_flagged n r c seeks.0.0 old seeks.0.1 f seeks.0.4 same walked_log))))
      lost mid_log l
    where
      reads : Plain seeks.0.1 mid
      reads = reads_plain k r.seek_record.edge.slot seeks.0.1 mid seeks.0.2 seeks.0.6

      mid_log : IsLogOf L w mid
      mid_log = let s = cleanup_steady L enough w r.seek_record c mid new lost in
          log_prefix L w mid s.entries (subst (IsLogOf L w) s.are l)

      walked_log : IsLogOf L w seeks.0.1
      walked_log = log_prefix L w seeks.0.1 reads.entries (subst (IsLogOf L w) reads.are mid_log)

  -- nor is the cleanup lost otherwise that follows a won flag
  pub flag_needs : (r : WalkEnd) (c : List ChainEdge) (b : ℕ) (n : NodeId) (old mid new : List Entry)
      → TriesFlag L k r c b (Flagged n) old mid → CleanupLost r.seek_record c mid new → IsLogOf L w mid
      → IsLogOf L w new → NeedsOthers L enough w old new
  flag_needs r c b n old mid new won cleanup mid_log l = never_lost L enough w k won.walk.0.0 old won.walk.0.1 mid
      new r.seek_record c won.walk.0.4 only marked cleanup mid_log l
    where
      looked : List Entry
      looked = won.ended ++ (Look r.seek_record.edge.slot Birth, BirthIs b) ∷ []

      flag : Entry
      flag = (Flag r.seek_record.parent r.seek_record.side r.seek_record.edge.slot, Flagged n)

      only : OnlyAt r.seek_record.parent won.walk.0.1 mid
      only = only_then r.seek_record.parent won.walk.0.1 won.ended mid
          (only_plain r.seek_record.parent won.walk.0.1 won.ended
          (reads_plain k r.seek_record.edge.slot won.walk.0.1 won.ended won.walk.0.2 won.walk.0.6))
          (only_then r.seek_record.parent won.ended _ mid
          (only_plain r.seek_record.parent won.ended _
          (plain_these ((Look r.seek_record.edge.slot Birth, BirthIs b) ∷ []) won.ended _ refl refl))
          (only_flag r.seek_record.parent r.seek_record.side r.seek_record.edge.slot n _ mid won.entries))

      marked : IsMarked L enough w mid r.seek_record.parent r.seek_record.side r.seek_record.edge.slot
      marked = inl (subst (λ (l : List Entry). Holds L w l
          (IsFlagged r.seek_record.parent r.seek_record.side r.seek_record.edge.slot)) (sym won.entries)
          (flags_are_learned L enough w looked flag (subst (IsLogOf L w) won.entries mid_log) r.seek_record.parent
          r.seek_record.edge.slot r.seek_record.side n refl))

  -- ---- tries behind one another

  pub removals_steady : (n : NodeId) (t : ℕ) (old new : List Entry) → LostRemovals L k n t old new → Steady old new
  removals_steady n zero old new h = steady_these [] old new refl (h ∙ sym (append-nil old))
  removals_steady n (suc t) old new (mid, before, try) = steady_then old mid new (removals_steady n t old mid before)
      (removal_steady n mid new try)

  pub removals_changed : w < L.workers → L.workers ≤ chain_bound → (n : NodeId) (t : ℕ) (old new : List Entry)
      → Flagging k n old → LostRemovals L k n t old new → IsLogOf L w new → Changed L enough w old new t
  removals_changed here crew n zero old new f h l = changed_none L enough w old new (longer_none old new h)
  removals_changed here crew n (suc t) old new f (mid, before, try) l =
      let last = removal_steady n mid new try in
      subst (Changed L enough w old new) (let is : t + 1 ≡ suc t = omega arith in is)
      (changed_then L enough w old mid new t 1 (removals_changed here crew n t old mid f before
      (log_prefix L w mid last.entries (subst (IsLogOf L w) last.are l)))
      (changed_once L enough w mid new (removal_needs here crew n mid new
      (flagging_on k n old mid (removals_steady n t old mid before) f) try l)))
