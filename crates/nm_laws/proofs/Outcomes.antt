-- What an answer is.
use Rattle.std.proofs.Common.{◌≡◌, Result, Ok, Err}
use Rattle.nm_model.specs.declared.reply.Reply.{Reply}
use Rattle.nm_model.specs.declared.reply.Refused.{Refused}

pub same_reply : (q r : Reply) → ◌≡◌ {A = Result Reply Refused} (Ok q) (Ok r) → q ≡ r
same_reply q r e = cc

pub no_reply : (q : Refused) (r : Reply) → ◌≡◌ {A = Result Reply Refused} (Err q) (Ok r) → ⊥
no_reply q r e = cc
