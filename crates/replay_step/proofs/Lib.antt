-- The laws behind a slot's step: numbers (NumberLaws), what a code tells of its slot (CodeLaws), what a slot of each class does (ClassLaws),
-- what a load or a store comes to (AccessLaws), what a code
-- of class LD is (SpecialLaws), and how a step goes on (StepLaws).
pub mod NumberLaws
pub mod CodeLaws
pub mod ClassLaws
pub mod AccessLaws
pub mod SpecialLaws
pub mod StepLaws
