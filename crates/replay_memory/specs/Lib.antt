-- What an access may be (Access), and what a load and a store come to at the place where they lie (AtPlace).
pub mod Access
pub mod AtPlace
