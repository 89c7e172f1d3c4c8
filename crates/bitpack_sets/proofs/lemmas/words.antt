-- What the other lemmas speak of, and the worked sets.
pub mod Words
pub mod WorkedProofs
