-- The links, flags and splices that a log shows as won.
use Rattle.std.specs.Prelude.{◌≡◌, ℕ, Bool, true, false, List, length, filter}
use Rattle.nm_model.specs.declared.event.Event.TheVariants.{Splice}
use Rattle.nm_model.specs.declared.reply.Reply.TheVariants.{Cut}
use Rattle.nm_model.specs.Walks.{Entry}
use Rattle.nm_order.specs.Exchanges.{is_won_link}
use Rattle.nm_order.specs.WalksToArrivals.{is_won_flag}
use Rattle.nm_epoch.specs.declared.collecting.Tally.{Tally}
use Rattle.nm_epoch.specs.Collecting.{capped}

-- an entry of a splice that cut nodes off
abbrev pub is_won_splice : Entry → Bool
is_won_splice (Splice ancestor side successor parent keep, Cut nodes) = true
is_won_splice _ = false

-- ---- in a log

-- `won_links`, `won_flags`, `won_splices`: the number of links, flags and splices that a log has
-- won
abbrev pub won_links : List Entry → ℕ
won_links log = length (filter is_won_link log)

abbrev pub won_flags : List Entry → ℕ
won_flags log = length (filter is_won_flag log)

abbrev pub won_splices : List Entry → ℕ
won_splices log = length (filter is_won_splice log)

-- the counts of links, flags and splices are the numbers that the log has won
pub record CountsWon (log : List Entry) (t : Tally) : Type 0 where
  pub links : t.links ≡ capped (won_links log)
  pub flags : t.flags ≡ capped (won_flags log)
  pub splices : t.splices ≡ capped (won_splices log)
