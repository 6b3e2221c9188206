pub mod Tests
pub mod Table
pub mod Lists
pub mod BytesLaws
pub mod CasesLaws
