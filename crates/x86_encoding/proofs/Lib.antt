pub mod BytesLaws
pub mod OperandLaws
