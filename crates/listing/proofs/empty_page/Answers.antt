-- `empty_page` meets its contract: by a law on lists, since to count so many bytes takes long.
use Rattle.std.proofs.Common.{ℕ, refl, sym}
use lib.ListN.{length-replicate}
use Rattle.listing.proofs.empty_page.Goals as goal

pub returns : goal.returns
returns c = (refl, sym (length-replicate {A = ℕ} 131072 0))
