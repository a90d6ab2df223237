mod Flat
mod Parts
