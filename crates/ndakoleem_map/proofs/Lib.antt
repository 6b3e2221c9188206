pub mod ExportedMapLaws
