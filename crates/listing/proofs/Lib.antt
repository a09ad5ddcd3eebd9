-- What the proof of the list uses.
mod Laws
