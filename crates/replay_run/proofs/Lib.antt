-- The laws of a run, turn by turn (RunningLaws).
pub mod RunningLaws
