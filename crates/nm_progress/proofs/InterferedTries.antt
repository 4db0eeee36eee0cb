-- Lost tries of an insert and of a delete: in each its worker was interfered.
use Rattle.std.proofs.Common.{◌≡◌, ℕ, zero, suc, ◌+◌, ◌<◌, ◌≤◌, inl, inr, ◌⊎◌, ◌==◌, Bool, true, false, ◌||◌, List, [], ◌∷◌, ◌++◌, refl, sym, ap, subst, ◌∙◌, arith, true≢false}
use Rattle.std.specs.Prelude.{Option, Some, None}
use Rattle.std.proofs.lemmas.Bool.{eq-eqb, and_from}
use Rattle.std.proofs.lemmas.List.{append-nil}
use Rattle.nm_edge.specs.Edges.{Edge}
use Rattle.nm_edge.specs.Layouts.{Layout}
use Rattle.nm_edge.specs.declared.node.NodeId.{NodeId}
use Rattle.nm_model.specs.declared.event.Event.{Event}
use Rattle.nm_model.specs.declared.event.Event.TheVariants.{Sight, Look, Link, Flag, Tag, Splice}
use Rattle.nm_model.specs.declared.event.Field.TheVariants.{Birth}
use Rattle.nm_model.specs.declared.reply.Reply.TheVariants.{Labelled, BirthIs, Was, Cut, Lost}
use Rattle.nm_model.specs.Walks.{Entry}
use Rattle.nm_order.specs.Logs.{IsLogOf}
use Rattle.nm_edge.specs.declared.placement.Fit.{Fit}
use Rattle.nm_walks.specs.declared.making.NewNodes.{NewNodes}
use Rattle.nm_walks.specs.declared.seek_record.ChainEdge.{ChainEdge}
use Rattle.nm_walks.specs.declared.seek_record.WalkEnd.{WalkEnd}
use Rattle.nm_walks.specs.declared.seek_record.SeekRecord.{SeekRecord}
use Rattle.nm_walks.specs.Bounds.{chain_bound}
use Rattle.nm_walks.specs.Cleanups.{CutsOff, CleanupLost, CleanupWon}
use Rattle.nm_walks.specs.Making.{fills}
use Rattle.nm_walks.specs.Places.{Stops}
use Rattle.nm_walks.specs.Walks.{Walks, IsBroken}
use Rattle.nm_calls.specs.Inserts.{asks_help, Helps, TriesLink, LostInserts}
use Rattle.nm_calls.specs.Deletes.{TriesFlag, LostFlags}
use Rattle.nm_progress.specs.Changes.{is_bare, Expects}
use Rattle.nm_progress.specs.Changes.Expects.{ToLink, ToFlag}
use Rattle.nm_progress.specs.Tries.{losing}
use Rattle.nm_progress.proofs.LostCleanups.{cleanup_interferes}
use Rattle.nm_progress.proofs.MoreTries.{is_loud, Plain, plain_none, plain_these, plain_then, quiet_pins, log_prefix}
use Rattle.nm_progress.proofs.WalkInterference.{walk_plain}
use Rattle.nm_progress.proofs.DeepInterference.{deep_plain}
use Rattle.nm_progress.proofs.Interfered.{Interferes, of_longer, interferes_then, of_interference, of_deep}
use Rattle.nm_progress.proofs.MarkedReads.{IsMarked, StillMarked, marks_last, lost_behind, seek_marked, seek_read, lost_link_marked, lost_flag_marked, chooses_plain, freezes_plain}
use Rattle.nm_progress.proofs.Parts.{Longer, longer_these, longer_then, longer_none, plain_longer, reads_plain, walk_longer, broken_longer, help_longer, readies_plain}
use Rattle.nm_progress.proofs.Steady.{Steady, steady_these, steady_then, plain_steady, IsFor, for_on}
use Rattle.nm_progress.proofs.WalkReads.{walk_read}

-- ---- one try

-- it is lost: its walk was broken off, or its exchange was lost, and then there was help
abbrev pub IsLostInsert : Fit → Layout → ℕ → Option NewNodes → Option NewNodes → List Entry → List Entry → Type 0
IsLostInsert fit L k f g old new = ((c : List ChainEdge) × Stops L k old new c None × (g ≡ f))
    ⊎ ((made : NewNodes) × (r : WalkEnd) × (c : List ChainEdge) × (e : Edge) × (mid : List Entry)
    × TriesLink fit L k f made r c (Lost e) old mid × (g ≡ Some made) × Helps r c e mid new)

abbrev pub IsLostFlag : Layout → ℕ → List ChainEdge → List Entry → List Entry → Type 0
IsLostFlag L k c old new = IsBroken L k old new ⊎ ((r : WalkEnd) × (b : ℕ) × (e : Edge) × (mid : List Entry)
    × TriesFlag L k r c b (Lost e) old mid × Helps r c e mid new)

module _ (L : Layout) (k : ℕ) where
  -- what a try adds behind its walk, up to its exchange, changes nothing
  pub link_plain : (fit : Fit) (f : Option NewNodes) (made : NewNodes) (r : WalkEnd) (c : List ChainEdge) (e : Edge)
      (old mid : List Entry) (link : TriesLink fit L k f made r c (Lost e) old mid)
      → Plain link.walk.0.1 ((link.claimed ++ fills made.internal.slot link.grows.0.key link.grows.0.left
      link.grows.0.right) ++ fills made.leaf.slot k 0 0)
  link_plain fit f made r c e old mid link = plain_then link.walk.0.1 link.ended _
      (reads_plain k r.seek_record.edge.slot link.walk.0.1 link.ended link.walk.0.2 link.walk.0.6)
      (plain_then link.ended link.claimed _ (readies_plain fit L.nodes f made link.ended link.claimed link.readies)
      (plain_then link.claimed _ _ (plain_these (fills made.internal.slot link.grows.0.key link.grows.0.left
      link.grows.0.right) link.claimed _ refl refl) (plain_these (fills made.leaf.slot k 0 0) _ _ refl refl)))

  pub flag_plain : (r : WalkEnd) (c : List ChainEdge) (b : ℕ) (e : Edge) (old mid : List Entry)
      (flag : TriesFlag L k r c b (Lost e) old mid) → Plain flag.walk.0.1
      (flag.ended ++ (Look r.seek_record.edge.slot Birth, BirthIs b) ∷ [])
  flag_plain r c b e old mid flag = plain_then flag.walk.0.1 flag.ended _
      (reads_plain k r.seek_record.edge.slot flag.walk.0.1 flag.ended flag.walk.0.2 flag.walk.0.6)
      (plain_these ((Look r.seek_record.edge.slot Birth, BirthIs b) ∷ []) flag.ended _ refl refl)

-- it makes the log longer
pub insert_longer : (fit : Fit) (L : Layout) (k : ℕ) (f g : Option NewNodes) (old new : List Entry)
    → IsLostInsert fit L k f g old new → Longer old new
insert_longer fit L k f g old new (inl (c, broken, same)) = broken_longer L k old new broken
insert_longer fit L k f g old new (inr (made, r, c, e, mid, link, forked, helps)) =
    longer_then old link.walk.0.1 new (walk_longer k link.walk.0.0 old link.walk.0.1 r.seek_record c link.walk.0.4)
    (longer_then link.walk.0.1 _ new (plain_longer _ _ (link_plain L k fit f made r c e old mid link))
    (longer_then _ mid new (longer_these _ _ mid link.grows.3) (help_longer r c e mid new helps)))

pub flag_longer : (L : Layout) (k : ℕ) (c : List ChainEdge) (old new : List Entry) → IsLostFlag L k c old new
    → Longer old new
flag_longer L k c old new (inl broken) = broken_longer L k old new broken
flag_longer L k c old new (inr (r, b, e, mid, flag, helps)) =
    longer_then old flag.walk.0.1 new (walk_longer k flag.walk.0.0 old flag.walk.0.1 r.seek_record c flag.walk.0.4)
    (longer_then flag.walk.0.1 _ new (plain_longer _ _ (flag_plain L k r c b e old mid flag))
    (longer_then _ mid new (longer_these _ _ mid flag.entries) (help_longer r c e mid new helps)))

-- ---- a call goes on by what a lost try adds

pub cleanup_steady : (L : Layout) (enough : 5 ≤ L.nodes) (w : ℕ) (s : SeekRecord) (c : List ChainEdge)
    (old new : List Entry) → CleanupLost s c old new → Steady old new
cleanup_steady L enough w s c old new (inl none) = plain_steady old new (chooses_plain L enough w s None old new none)
cleanup_steady L enough w s c old new (inr (kept, mid, e, (chosen, was, chooses, freezes), is)) =
    steady_then old chosen new (plain_steady old chosen (chooses_plain L enough w s (Some kept) old chosen chooses))
    (steady_then chosen _ new (steady_these ((Tag s.parent kept.side, Was was) ∷ []) chosen _ refl refl)
    (steady_then _ mid new (plain_steady _ mid (freezes_plain L enough w s.parent kept.side c _ mid freezes))
    (steady_these ((Splice s.ancestor s.above s.successor s.parent kept.side, Lost e) ∷ []) mid new refl is)))

cut_steady : (L : Layout) (enough : 5 ≤ L.nodes) (w : ℕ) (s : SeekRecord) (c : List ChainEdge) (ns : List NodeId)
    (old new : List Entry) → CutsOff s c ns old new → Steady old new
cut_steady L enough w s c ns old new (kept, mid, (chosen, was, chooses, freezes), is) =
    steady_then old chosen new (plain_steady old chosen (chooses_plain L enough w s (Some kept) old chosen chooses))
    (steady_then chosen _ new (steady_these ((Tag s.parent kept.side, Was was) ∷ []) chosen _ refl refl)
    (steady_then _ mid new (plain_steady _ mid (freezes_plain L enough w s.parent kept.side c _ mid freezes))
    (steady_these ((Splice s.ancestor s.above s.successor s.parent kept.side, Cut ns) ∷ []) mid new refl is)))

pub help_steady : (L : Layout) (enough : 5 ≤ L.nodes) (w : ℕ) (r : WalkEnd) (c : List ChainEdge) (e : Edge)
    (old new : List Entry) → Helps r c e old new → Steady old new
help_steady L enough w r c e old new (inr h) = steady_these [] old new refl (h.1 ∙ sym (append-nil old))
help_steady L enough w r c e old new (inl h) = by h.1
  where
    by : ((ns : List NodeId) × (epoch : ℕ) × CleanupWon r.seek_record c ns epoch old new)
        ⊎ CleanupLost r.seek_record c old new → Steady old new
    by (inl (ns, epoch, (mid, cut, is))) = steady_then old mid new
        (cut_steady L enough w r.seek_record c ns old mid cut)
        (steady_these ((Sight, Labelled epoch) ∷ []) mid new refl is)
    by (inr lost) = cleanup_steady L enough w r.seek_record c old new lost

pub broken_plain : (L : Layout) (k : ℕ) (old new : List Entry) → IsBroken L k old new → Plain old new
broken_plain L k old new (inl e) = walk_plain k e.1 old new e.2 e.3 e.4
broken_plain L k old new (inr e) = deep_plain L k old new e

insert_steady : (fit : Fit) (L : Layout) (enough : 5 ≤ L.nodes) (w k : ℕ) (f g : Option NewNodes)
    (old new : List Entry) → IsLostInsert fit L k f g old new → Steady old new
insert_steady fit L enough w k f g old new (inl (c, broken, same)) = plain_steady old new
    (broken_plain L k old new broken)
insert_steady fit L enough w k f g old new (inr (made, r, c, e, mid, link, forked, helps)) =
    steady_then old link.walk.0.1 new (plain_steady old link.walk.0.1
    (walk_plain k link.walk.0.0 old link.walk.0.1 r.seek_record c link.walk.0.4))
    (steady_then link.walk.0.1 _ new (plain_steady _ _ (link_plain L k fit f made r c e old mid link))
    (steady_then _ mid new (steady_these ((
      Link r.seek_record.parent r.seek_record.side r.seek_record.edge.slot
          made.internal.slot,
      Lost e,
    ) ∷ []) _ mid refl link.grows.3) (help_steady L enough w r c e mid new helps)))

flag_steady : (L : Layout) (enough : 5 ≤ L.nodes) (w k : ℕ) (c : List ChainEdge) (old new : List Entry)
    → IsLostFlag L k c old new → Steady old new
flag_steady L enough w k c old new (inl broken) = plain_steady old new (broken_plain L k old new broken)
flag_steady L enough w k c old new (inr (r, b, e, mid, flag, helps)) =
    steady_then old flag.walk.0.1 new (plain_steady old flag.walk.0.1
    (walk_plain k flag.walk.0.0 old flag.walk.0.1 r.seek_record c flag.walk.0.4))
    (steady_then flag.walk.0.1 _ new (plain_steady _ _ (flag_plain L k r c b e old mid flag))
    (steady_then _ mid new (steady_these ((
      Flag r.seek_record.parent r.seek_record.side r.seek_record.edge.slot,
      Lost
          e,
    ) ∷ []) _ mid refl flag.entries) (help_steady L enough w r c e mid new helps)))

inserts_steady : (fit : Fit) (L : Layout) (enough : 5 ≤ L.nodes) (w k n : ℕ) (f : Option NewNodes)
    (old new : List Entry) → LostInserts fit L k n f old new → Steady old new
inserts_steady fit L enough w k zero f old new h = steady_these [] old new refl (h.1 ∙ sym (append-nil old))
inserts_steady fit L enough w k (suc n) g old new (f, mid, before, try) = steady_then old mid new
    (inserts_steady fit L enough w k n f old mid before) (insert_steady fit L enough w k f g mid new try)

pub flags_steady : (L : Layout) (enough : 5 ≤ L.nodes) (w k n : ℕ) (old new : List Entry) → LostFlags L k n old new
    → Steady old new
flags_steady L enough w k zero old new h = steady_these [] old new refl (h ∙ sym (append-nil old))
flags_steady L enough w k (suc n) old new (c, mid, before, try) = steady_then old mid new
    (flags_steady L enough w k n old mid before) (flag_steady L enough w k c mid new try)

asks : (r : WalkEnd) (e : Edge) → StillMarked e r.seek_record.edge.slot → asks_help r e ≡ true
asks r e still = and_from (e.slot == r.seek_record.edge.slot) (e.flag || e.tag)
    (eq-eqb e.slot r.seek_record.edge.slot still.0) still.1

module _ (L : Layout) (enough : 5 ≤ L.nodes) (w k : ℕ) where
  -- the help behind an exchange that was lost at an edge which has a mark
  helped : (r : WalkEnd) (c : List ChainEdge) (e : Edge) (old walked mid new : List Entry) (n : ℕ)
      → Walks k n old walked r.seek_record c → Plain walked mid
      → IsMarked L enough w mid r.seek_record.parent r.seek_record.side r.seek_record.edge.slot
      → StillMarked e r.seek_record.edge.slot → Helps r c e mid new → IsLogOf L w new → Interferes L enough w old new 1
  helped r c e old walked mid new n walk plain marked still (inl h) l = cleanup_interferes L enough w k n old walked
      mid new r.seek_record c walk plain marked h.1 l
  helped r c e old walked mid new n walk plain marked still (inr h) l = absurd (true≢false (sym (asks r e still) ∙ h.0))

  -- what a walk read stays marked behind entries that change nothing
  marked_there : (n : ℕ) (old walked new : List Entry) (r : WalkEnd) (c : List ChainEdge)
      → Walks k n old walked r.seek_record c → (p : Plain walked new) → is_bare r.seek_record.edge ≡ false
      → IsLogOf L w new → IsMarked L enough w new r.seek_record.parent r.seek_record.side r.seek_record.edge.slot
  marked_there n old walked new r c walk p marked l =
      let log = subst (IsLogOf L w) p.are l in
      let before = log_prefix L w walked p.entries log in
      subst (λ (l : List Entry). IsMarked L enough w l r.seek_record.parent r.seek_record.side
      r.seek_record.edge.slot) (sym p.are)
      (marks_last L enough w walked p.entries log (quiet_pins p.entries p.quiet) r.seek_record.parent
      r.seek_record.side r.seek_record.edge.slot (seek_marked L enough w old walked r.seek_record before
      (walk_read L enough w k n old walked r.seek_record c walk before) marked))

  -- what an exchange finds changed that was lost behind a walk which came there by an edge without a mark
  pub bare_at : (r : WalkEnd) (c : List ChainEdge) (e : Edge) (n : ℕ) (old walked before new : List Entry)
      (exchange : Event) → Walks k n old walked r.seek_record c → Plain walked before
      → Expects r.seek_record.parent r.seek_record.side r.seek_record.edge.slot exchange
      → is_bare r.seek_record.edge ≡ true
      → Longer (before ++ losing exchange e ∷ []) new → IsLogOf L w before → Interferes L enough w old new 1
  bare_at r c e n old walked before new exchange walk plain expects bare rest l =
      let walked_log = log_prefix L w walked plain.entries (subst (IsLogOf L w) plain.are l) in
      lost_behind L enough w r.seek_record.parent r.seek_record.side r.seek_record.edge.slot old walked before new
      exchange e (seek_read L enough w old walked r.seek_record
      (walk_read L enough w k n old walked r.seek_record c walk walked_log) bare) plain expects rest

  -- an exchange that was lost behind a walk, at the edge by which it came, then entries that change
  -- nothing, and then help
  pub lost_at : (r : WalkEnd) (c : List ChainEdge) (e : Edge) (n : ℕ) (old walked before mid back new : List Entry)
      (exchange : Event) → Walks k n old walked r.seek_record c → Plain walked before
      → is_loud (losing exchange e) ≡ false → Expects r.seek_record.parent r.seek_record.side r.seek_record.edge.slot
      exchange
      → (IsLogOf L w (before ++ losing exchange e ∷ [])
      → IsMarked L enough w before r.seek_record.parent r.seek_record.side r.seek_record.edge.slot
      → StillMarked e r.seek_record.edge.slot)
      → mid ≡ before ++ losing exchange e ∷ [] → Plain mid back → Helps r c e back new → IsLogOf L w new
      → Interferes L enough w old new 1
  lost_at r c e n old walked before mid back new exchange walk plain quiet expects found is gap helps l = by
      (is_bare r.seek_record.edge) refl
    where
      longer : Longer back new
      longer = help_longer r c e back new helps

      back_log : IsLogOf L w back
      back_log = log_prefix L w back longer.entries (subst (IsLogOf L w) longer.are l)

      mid_log : IsLogOf L w mid
      mid_log = log_prefix L w mid gap.entries (subst (IsLogOf L w) gap.are back_log)

      exchange_log : IsLogOf L w (before ++ losing exchange e ∷ [])
      exchange_log = subst (IsLogOf L w) is mid_log

      before_log : IsLogOf L w before
      before_log = log_prefix L w before (losing exchange e ∷ []) exchange_log

      behind : Plain walked back
      behind = plain_then walked mid back (plain_then walked before mid plain
          (plain_these (losing exchange e ∷ []) before mid (ap (λ (b : Bool). b || false) quiet) is)) gap

      by : (b : Bool) → is_bare r.seek_record.edge ≡ b → Interferes L enough w old new 1
      by true bare = bare_at r c e n old walked before new exchange walk plain expects bare
          (longer_then _ mid new (longer_none _ mid is)
          (longer_then mid back new (plain_longer mid back gap) longer)) before_log
      by false marked = helped r c e old walked back new n walk behind
          (marked_there n old walked back r c walk behind marked back_log)
          (found exchange_log (marked_there n old walked before r c walk plain marked before_log)) helps l

module _ (L : Layout) (enough : 5 ≤ L.nodes) (w k : ℕ) (here : w < L.workers) (crew : L.workers ≤ chain_bound) where
  -- a walk that was broken off
  pub broken_interferes : (old new : List Entry) → IsFor k old → IsBroken L k old new → Interferes L enough w old new 1
  broken_interferes old new for (inl long) = of_interference L enough w k old new
      (broken_longer L k old new (inl long)) long
  broken_interferes old new for (inr deep) = of_deep L enough w here crew k old new for deep

  -- a lost try of an insert
  pub insert_interferes : (fit : Fit) (f g : Option NewNodes) (old new : List Entry) → IsFor k old
      → IsLostInsert fit L k f g old new → IsLogOf L w new → Interferes L enough w old new 1
  insert_interferes fit f g old new for (inl (c, broken, same)) l = broken_interferes old new for broken
  insert_interferes fit f g old new for (inr (made, r, c, e, mid, link, forked, helps)) l =
      lost_at L enough w k r c e link.walk.0.0 old link.walk.0.1 _ mid mid new
      (Link r.seek_record.parent r.seek_record.side r.seek_record.edge.slot made.internal.slot) link.walk.0.4
      (link_plain L k fit f made r c e old mid link) refl (ToLink made.internal.slot)
      (lost_link_marked L enough w _ r.seek_record.parent r.seek_record.edge.slot made.internal.slot
      r.seek_record.side r.seek_record.edge.slot e) link.grows.3 (plain_none mid mid refl) helps l

  -- a lost try to flag
  pub flag_interferes : (c : List ChainEdge) (old new : List Entry) → IsFor k old → IsLostFlag L k c old new
      → IsLogOf L w new → Interferes L enough w old new 1
  flag_interferes c old new for (inl broken) l = broken_interferes old new for broken
  flag_interferes c old new for (inr (r, b, e, mid, flag, helps)) l =
      lost_at L enough w k r c e flag.walk.0.0 old flag.walk.0.1 _ mid mid new
      (Flag r.seek_record.parent r.seek_record.side r.seek_record.edge.slot) flag.walk.0.4
      (flag_plain L k r c b e old mid flag) refl ToFlag
      (lost_flag_marked L enough w _ r.seek_record.parent r.seek_record.edge.slot r.seek_record.side
      r.seek_record.edge.slot e) flag.entries (plain_none mid mid refl) helps l

  -- ---- tries behind one another

  pub one_more : (n : ℕ) (old mid new : List Entry) → (IsLogOf L w mid → Interferes L enough w old mid n)
      → Interferes L enough w mid new 1 → IsLogOf L w new → Interferes L enough w old new (suc n)
  one_more n old mid new before h l = subst (Interferes L enough w old new) (let is : n + 1 ≡ suc n = omega arith in is)
      (interferes_then L enough w old mid new n 1 (before
      (log_prefix L w mid h.entries (subst (IsLogOf L w) h.are l))) h)

  pub inserts_interfere : (fit : Fit) (n : ℕ) (f : Option NewNodes) (old new : List Entry) → IsFor k old
      → LostInserts fit L k n f old new → IsLogOf L w new → Interferes L enough w old new n
  inserts_interfere fit zero f old new for h l = of_longer L enough w old new
      (longer_these [] old new (h.1 ∙ sym (append-nil old)))
  inserts_interfere fit (suc n) g old new for (f, mid, before, try) l = one_more n old mid new
      (inserts_interfere fit n f old mid for before) (insert_interferes fit f g mid new
      (for_on k old mid (inserts_steady fit L enough w k n f old mid before) for) try l) l

  pub flags_interfere : (n : ℕ) (old new : List Entry) → IsFor k old → LostFlags L k n old new → IsLogOf L w new
      → Interferes L enough w old new n
  flags_interfere zero old new for h l = of_longer L enough w old new
      (longer_these [] old new (h ∙ sym (append-nil old)))
  flags_interfere (suc n) old new for (c, mid, before, try) l = one_more n old mid new
      (flags_interfere n old mid for before) (flag_interferes c mid new
      (for_on k old mid (flags_steady L enough w k n old mid before) for) try l) l

-- and so between a call's begin and its end
pub within : (L : Layout) (enough : 5 ≤ L.nodes) (w n : ℕ) (old begun ended new : List Entry) → Longer old begun
    → Interferes L enough w begun ended n → Longer ended new → Interferes L enough w old new n
within L enough w n old begun ended new a s b = subst (Interferes L enough w old new)
    (let is : 0 + (n + 0) ≡ n = omega arith in is)
    (interferes_then L enough w old begun new 0 (n + 0) (of_longer L enough w old begun a)
    (interferes_then L enough w begun ended new n 0 s (of_longer L enough w ended new b)))
