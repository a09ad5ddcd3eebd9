-- What the proofs of the replay use.
mod Laws
