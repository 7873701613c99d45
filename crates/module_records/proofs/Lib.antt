mod Pins
