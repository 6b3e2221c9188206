pub mod TranslatedLaws
pub mod DecidedLaws
pub mod PageLaws
pub mod Useless
